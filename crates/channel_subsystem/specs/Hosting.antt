-- A channel subsystem whose main storage is a host's, and what each call leaves of both.
use Rattle.std.specs.Prelude.{◌≡◌, ℕ, ◌+◌, ◌*◌, ◌^◌, ◌≤◌, ◌++◌, ◌∷◌, [], IfErr, IfOk, IfSome, List, OnErr, OnOk, length, Option, None, Some, Result, Ok, Err}
use Rattle.storage_keys.specs.Storage.{Contents}
use Rattle.chan_model.specs.declared.fault.Fault.{Fault}
use Rattle.chan_events.specs.Events.{Event}
use Rattle.chan_events.specs.declared.reply.Entry.{Entry}
use Rattle.chan_events.specs.Replies.{Reply}
use Rattle.machine_model.specs.State.{lent}
use Rattle.machine_model.specs.Ruled.{GoesByRule}
use Rattle.machine_model.specs.State.{State}
use Rattle.machine_model.specs.Steps.{HasRun, IsRefused, Step}
use Rattle.path_select.specs.Choice.{Rule}
use Rattle.run_laws.specs.Stores.{besides_stores}
use Rattle.subsystem.specs.Keeping.{BringsOrdered, Rises, StaysSetUp, all_serials}
use Rattle.channel_subsystem.specs.Ends.{EndsBy, still_kept}
use Rattle.channel_subsystem.specs.Stores.{stores}
use Rattle.channel_subsystem.specs.declared.host_fault.HostFault.{HostFault}
use Rattle.channel_subsystem.specs.declared.host_fault.HostFault.TheVariants as fault
use Rattle.channel_subsystem.specs.declared.keeping.Keeping.{Keeping}
use Rattle.channel_subsystem.specs.declared.keeping.Keeping.TheVariants.{AllEntries}

-- what it is beside storage: its machine, how many blocks of storage it was set up with, which entries it keeps, those that it has,
-- for how many more there is room, and how many events were accepted
pub record Hosted : Type 0 where
  pub machine : State
  pub blocks : ℕ
  pub keeping : Keeping
  pub kept : List Entry
  pub room : ℕ
  pub count : ℕ

-- storage of so many blocks of 4,096 bytes, with a key for each, and a prefix for each CPU
pub record IsOfSize (blocks : ℕ) (storage : Contents) : Type 0 where
  pub bytes : length storage.bytes ≡ 4096 * blocks
  pub keys : length storage.keys ≡ blocks
  pub cpus : length storage.prefixes ≡ 16

-- from the opening these entries lead to what it is with these contents of storage, and end by those that it keeps; its calls count
-- those that are no stores
pub record Leads (h : List Entry) (s : Hosted) (storage : Contents) : Type 0 where
  pub run : HasRun h (lent s.machine storage)
  pub size : IsOfSize s.blocks storage
  pub counted : besides_stores h ≤ s.count
  pub ends : EndsBy h s.kept

-- some history led here
abbrev pub HasLed : Hosted → Type 0
HasLed s = (h : List Entry) × (storage : Contents) × Leads h s storage

-- some history leads to this state, and there is a number for another event
abbrev pub HasNumber : State → Type 0
HasNumber s = (h : List Entry) × HasRun h s × (besides_stores h + 1 ≤ 2 ^ 62)

-- storage of so many blocks may be a host's
abbrev pub IsHostSize : ℕ → Type 0
IsHostSize blocks = (16 ≤ blocks) × (blocks ≤ 524288)

-- why a call is refused: storage is of another size, no number is left, all entries are kept and there is no room for another, or
-- the machine refuses the event
abbrev pub IsHostRefusal : Hosted → Contents → Event → HostFault → Type 0
IsHostRefusal s storage e fault.OtherSize = ¬ IsOfSize s.blocks storage
IsHostRefusal s storage e fault.NumbersUsedUp = 2 ^ 62 ≤ s.count + 1
IsHostRefusal s storage e fault.NoMemory = (s.keeping ≡ AllEntries) × (s.room ≡ 0)
IsHostRefusal s storage e (fault.Refused f) = IsRefused (lent s.machine storage) e f

-- why there is no room for another entry: of numbers none is left, or of memory
abbrev pub LacksRoom : (count room : ℕ) → HostFault → Type 0
LacksRoom count room fault.NumbersUsedUp = 2 ^ 62 ≤ count + 1
LacksRoom count room fault.NoMemory = room ≡ 0
LacksRoom count room other = ⊥

-- what the machine answered, where it was asked
abbrev pub machine_answer : Result Reply HostFault → Option (Result Reply Fault)
machine_answer (Ok reply) = Some (Ok reply)
machine_answer (Err (fault.Refused f)) = Some (Err f)
machine_answer (Err other) = None

-- the entry of an event, where it was accepted
abbrev pub entry_of : Event → Result Reply HostFault → List Entry
entry_of e (Ok reply) = record { event = e; reply = reply } ∷ []
entry_of e (Err f) = []

-- nothing is changed, but that of what was kept only that is left which is kept still; room was made perhaps, and none is lost
pub record IsAsBefore (old new : Hosted) : Type 0 where
  pub same : new ≡ record old { kept = still_kept old.keeping old.kept; room = new.room }
  pub room : old.room ≤ new.room

-- one event and its answer, between what it is and storage holds before and after
pub record IsHostStep (picks : Rule) (old : Hosted) (before : Contents) (e : Event) (answer : Result Reply HostFault) (new : Hosted) (after : Contents) : Type 0 where
  -- an accepted event is a step with its reply, from what storage holds at the call, and its entry is kept behind what is kept still
  pub step : IfOk answer (λ reply. Step (lent old.machine before) e reply (lent new.machine after))
  pub kept : OnOk answer (new.kept ≡ still_kept old.keeping old.kept ++ entry_of e answer)
  pub room : old.room ≤ new.room + 1
  pub count : OnOk answer (new.count ≡ old.count + 1)
  pub size : OnOk answer (IsOfSize old.blocks before)
  pub blocks : new.blocks ≡ old.blocks
  pub keeping : new.keeping ≡ old.keeping
  -- a path is chosen by the rule
  pub ruled : IfSome (machine_answer answer) (λ a. GoesByRule picks (lent old.machine before) e a (lent new.machine after))
  -- a refusal changes nothing, and has its reason
  pub refused : OnErr answer (IsAsBefore old new × (after ≡ before))
  pub refusal : IfErr answer (IsHostRefusal old before e)
  -- each history that led to the call goes on: by what was stored since, which nobody had to call for, and by the entry
  pub history : IsOfSize old.blocks before → (h : List Entry) (storage : Contents) → Leads h old storage → Leads (h ++ (stores before ++ entry_of e answer)) new after
  -- and where nothing was stored since, by the entry alone
  pub at_once : (h : List Entry) → Leads h old before → Leads (h ++ entry_of e answer) new after
  -- whatever the outcome, the machine stays set up, no subchannel comes or goes, and no serial falls
  pub set_up : StaysSetUp (lent old.machine before) (lent new.machine after)
  pub rises : Rises (all_serials old.machine) (all_serials new.machine)
  -- the serials that a reply brings are in order
  pub ordered : IfOk answer (λ reply. BringsOrdered e reply)
