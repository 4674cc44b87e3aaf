-- What a host has beside its guest's storage, what its calls do to both, and what a refusal means to a CPU.
use Rattle.std.specs.Prelude.{◌≡◌, ◌≤◌, ◌+◌, ℕ, List, [], ◌∷◌, ◌++◌, length, Option, None, Some, Result, Err}
use Rattle.storage_keys.specs.Storage.{Contents}
use Rattle.storage_keys.specs.declared.StorageFault.TheVariants.{Addressing, Protection, Specification}
use Rattle.chan_model.specs.declared.fault.Fault.TheVariants.{Storage, Operand}
use Rattle.chan_events.specs.Events.{Event}
use Rattle.chan_events.specs.declared.event.Event.TheVariants as event
use Rattle.chan_events.specs.declared.reply.Entry.{Entry}
use Rattle.chan_events.specs.Replies.{Reply}
use Rattle.chan_events.specs.declared.reply.Reply.TheVariants as reply
use Rattle.channel_subsystem.specs.Hosting.{Hosted, IsHostStep}
use Rattle.channel_subsystem.specs.declared.host_fault.HostFault.{HostFault}
use Rattle.channel_subsystem.specs.declared.host_fault.HostFault.TheVariants as fault
use Rattle.machine_model.specs.State.{State, lent}
use Rattle.machine_model.specs.Steps.{Step}
use Rattle.path_select.specs.Choice.{TakesNext}
use Rattle.unit_driver.specs.declared.waiting.WaitingReport.{WaitingReport}
use Rattle.embedding.specs.Clocks.{Clocks}
use Rattle.embedding.specs.declared.host.Turn.{Turn}
use Rattle.embedding.specs.declared.host.Turn.TheVariants.{Moved, Quiet, Refused}

-- the channel subsystem, the clock, and the report that is still to be handed in
pub record Hosts : Type 0 where
  pub subsystem : Hosted
  pub clock : Clocks
  pub waiting : Option WaitingReport

-- the channel subsystem, and what the storage holds that it is lent
pub record Moment : Type 0 where
  pub subsystem : Hosted
  pub storage : Contents

abbrev pub moment : Hosted → Contents → Moment
moment subsystem storage = record { subsystem = subsystem; storage = storage }

-- the state that its machine makes with that storage
abbrev pub state_at : Moment → State
state_at m = lent m.subsystem.machine m.storage

-- an event was accepted, and is a step on what storage held; or it was refused, and nothing changed
abbrev pub Enters : Moment → Event → Result Reply HostFault → Moment → Type 0
Enters old e answer new = IsHostStep TakesNext old.subsystem old.storage e answer new.subsystem new.storage

-- nothing happened to the machine or to storage
pub record IsAsBefore (old new : Moment) : Type 0 where
  pub state : state_at new ≡ state_at old
  pub count : new.subsystem.count ≡ old.subsystem.count
  pub blocks : new.subsystem.blocks ≡ old.subsystem.blocks

-- these entries, each a step, lead from one state to another
abbrev pub Leads : State → List Entry → State → Type 0
Leads old [] new = new ≡ old
Leads old (entry ∷ entries) new = (middle : State) × Step old entry.event entry.reply middle × Leads middle entries new

-- so many events were accepted, each a step, and nothing else happened to the machine or to storage
pub record GoesOn (count : ℕ) (old new : Moment) : Type 0 where
  pub entries : List Entry
  pub many : length entries ≡ count
  pub leads : Leads (state_at old) entries (state_at new)
  pub counted : new.subsystem.count ≡ old.subsystem.count + count
  pub blocks : new.subsystem.blocks ≡ old.subsystem.blocks

-- the last answer is that there was nothing to choose for the subchannel
abbrev pub EndsIdle : ℕ → Moment → Type 0
EndsIdle word m = (entries : List Entry) × (m.subsystem.kept ≡ entries ++ record { event = event.Choose word; reply = reply.Idle } ∷ [])

-- some event is refused so, which leaves this
abbrev pub EndsRefused : HostFault → Moment → Type 0
EndsRefused f m = (before : Moment) × (e : Event) × Enters before e (Err f) m

-- What turns came to: so many events, and more may be due; or fewer or as many, where nothing was due or an event was refused.
abbrev pub Turned : ℕ → ℕ → Turn → Moment → Moment → Type 0
Turned word most Moved old new = GoesOn most old new
Turned word most Quiet old new = (count : ℕ) × (count ≤ most) × GoesOn count old new × EndsIdle word new
Turned word most (Refused f) old new = (count : ℕ) × (count ≤ most) × GoesOn count old new × EndsRefused f new

-- the code of the program interruption that an instruction ends with where it is refused so (SA22-7832, chapter 6): protection,
-- addressing, specification, operand
abbrev pub program_interruption : HostFault → Option ℕ
program_interruption (fault.Refused (Storage Protection)) = Some 0x0004
program_interruption (fault.Refused (Storage Addressing)) = Some 0x0005
program_interruption (fault.Refused (Storage Specification)) = Some 0x0006
program_interruption (fault.Refused Operand) = Some 0x0015
program_interruption other = None
