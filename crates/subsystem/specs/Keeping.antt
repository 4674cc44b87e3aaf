-- What every step and every run keeps.
use Rattle.std.specs.Prelude.{◌≡◌, ◌≢◌, ◌⊎◌, ◌+◌, ◌≤◌, ◌++◌, ◌∷◌, [], ℕ, IfErr, IfOk, IfSome, List, OnErr, length, map, Option, None, Some, Result, Ok, Err, slice_get}
use Rattle.scsw_irb.specs.declared.serials.Serials.{Serials}
use Rattle.chan_model.specs.declared.answer.Answer.{Answer}
use Rattle.chan_model.specs.declared.answer.Answer.TheVariants as answer
use Rattle.chan_model.specs.declared.fault.Fault.{Fault}
use Rattle.chan_model.specs.declared.fault.Fault.TheVariants as fault
use Rattle.chan_events.specs.Events.{Event}
use Rattle.chan_events.specs.declared.event.Event.TheVariants as event
use Rattle.chan_events.specs.declared.reply.Entry.{Entry}
use Rattle.chan_events.specs.Replies.{Reply}
use Rattle.channel_config.specs.Setup.{Setup}
use Rattle.run_laws.specs.CodeSteps.{answer_in}
use Rattle.event_log.specs.Logs.{Logged, last_reply}
use Rattle.machine_model.specs.Ruled.{GoesByRule}
use Rattle.machine_model.specs.State.{IsAsBefore, IsExhausted, Past, State}
use Rattle.machine_model.specs.Setups.{IsSetUp}
use Rattle.machine_model.specs.Steps.{IsRefused, Step}
use Rattle.path_select.specs.Choice.{Rule}

-- what a subsystem is seen as: a state, and the log of what led there
abbrev pub past_of : State → Logged → Past
past_of state log = record { state = state; history = log.entries; room = log.room }

-- it stays as it was set up
abbrev pub StaysSetUp : State → State → Type 0
StaysSetUp old new = (setup : Setup) → IsSetUp setup old → IsSetUp setup new

-- the serials of all subchannels, in the order of their configuration
abbrev pub all_serials : State → List Serials
all_serials s = map (λ sub. sub.state.serials) s.subs

-- nothing is cleared that was not made
abbrev pub IsOrdered : Serials → Type 0
IsOrdered serials = serials.cleared ≤ serials.made

-- no subchannel comes or goes, and of none does either count fall
pub record Rises (old new : List Serials) : Type 0 where
  pub count : length new ≡ length old
  pub made : (index : ℕ) (before after : Serials) → slice_get old index ≡ Some before → slice_get new index ≡ Some after → before.made ≤ after.made
  pub cleared : (index : ℕ) (before after : Serials) → slice_get old index ≡ Some before → slice_get new index ≡ Some after → before.cleared ≤ after.cleared

-- the serials that an instruction's reply brings are in order
abbrev pub serials_with : Answer → Option Serials
serials_with (answer.Zero serials) = Some serials
serials_with (answer.One serials) = Some serials
serials_with answer.Two = None
serials_with answer.Three = None

abbrev pub serials_brought : Option Answer → Option Serials
serials_brought None = None
serials_brought (Some answer) = serials_with answer

abbrev pub BringsOrdered : Event → Reply → Type 0
BringsOrdered (event.Execute cpu i) r = IfSome (serials_brought (answer_in r)) IsOrdered
BringsOrdered e r = Unit {0}

-- what an event came to, by the entries that it left: its refusal, or the reply of the last entry
abbrev pub answer_of : {A F : Type 0} → Result A F → List Entry → Result Reply F
answer_of (Ok _) h = Ok (last_reply h)
answer_of (Err f) h = Err f

-- one event and its answer, between what a subsystem is before and after
pub record IsStep (picks : Rule) (old : Past) (e : Event) (answer : Result Reply Fault) (new : Past) : Type 0 where
  -- an accepted event is a step with its reply, and one entry more
  pub step : IfOk answer (λ reply. Step old.state e reply new.state)
  pub history : IfOk answer (λ reply. new.history ≡ old.history ++ record { event = e; reply = reply } ∷ [])
  -- a path is chosen by the rule
  pub ruled : answer ≢ Err fault.NoMemory → GoesByRule picks old.state e answer new.state
  -- a refusal changes nothing, and is as the machine's; or there is no room for the entry, or no number
  pub refused : OnErr answer (IsAsBefore old new)
  pub refusal : IfErr answer (λ f. (f ≡ fault.NoMemory) ⊎ IsRefused old.state e f)
  pub exhausted : answer ≡ Err fault.NoMemory → IsExhausted old new
  pub room : old.room ≤ new.room + 1
  -- whatever the outcome, the subsystem stays set up, no subchannel comes or goes, and no serial falls
  pub set_up : StaysSetUp old.state new.state
  pub rises : Rises (all_serials old.state) (all_serials new.state)
  -- the serials that a reply brings are in order
  pub ordered : IfOk answer (λ reply. BringsOrdered e reply)
