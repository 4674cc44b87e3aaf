-- What an event answers and leaves, or why it is refused: of the whole, and of one subchannel.
use Rattle.std.specs.Prelude.{ℕ, List, Result, Ok, Err}
use Rattle.storage_keys.specs.declared.StorageFault.{StorageFault}
use Rattle.storage_keys.specs.Storage.{Contents}
use Rattle.chan_model.specs.declared.fault.Fault.{Fault}
use Rattle.chan_model.specs.declared.fault.Fault.TheVariants as fault
use Rattle.chan_model.specs.declared.unit_state.UnitState.{UnitState}
use Rattle.chan_events.specs.Replies.{Reply}
use Rattle.control_units.specs.declared.Member.{Member}
use Rattle.subchannel_model.specs.declared.state.SubchannelState.{SubchannelState}
use Rattle.subchannel_model.specs.declared.state.Subchannel.{Subchannel}
use Rattle.machine_model.specs.State.{State, with_sub, state_with_unit}

-- what an accepted event answers and leaves
pub record StepResult : Type 0 where
  pub reply : Reply
  pub state : State

abbrev pub Outcome : Type 0
Outcome = Result StepResult Fault

abbrev pub does : Reply → State → Outcome
does r s = Ok (record { reply = r; state = s })

-- what an act whose operand is tested comes to: its turn, or storage's fault
abbrev pub where_tested : Result (Unit {0}) StorageFault → Outcome → Outcome
where_tested (Ok u) turn = turn
where_tested (Err f) turn = Err (fault.Storage f)

-- what an event at one subchannel answers and leaves of it
pub record SubResult : Type 0 where
  pub reply : Reply
  pub sub : Subchannel

-- the same of a signal that came up, which may leave other storage
pub record UpResult : Type 0 where
  pub reply : Reply
  pub sub : Subchannel
  pub storage : Contents

-- the same of an event at one subchannel and its unit
pub record DownResult : Type 0 where
  pub reply : Reply
  pub sub : Subchannel
  pub «unit» : UnitState

-- the same, with what control units keep of their units
pub record SharedResult : Type 0 where
  pub turn : DownResult
  pub members : List Member

abbrev pub leaves : Reply → Subchannel → SubResult
leaves r sub = record { reply = r; sub = sub }

abbrev pub with_state : Subchannel → SubchannelState → Subchannel
with_state sub state = record sub { state = state }

-- the same as a turn of the whole, the subchannel being at this index
abbrev pub at_index : State → ℕ → SubResult → Outcome
at_index s index t = does t.reply (with_sub s index t.sub)

abbrev pub at_sub : State → ℕ → Result SubResult Fault → Outcome
at_sub s index (Err f) = Err f
at_sub s index (Ok t) = at_index s index t

abbrev pub at_storage : State → ℕ → Result UpResult Fault → Outcome
at_storage s index (Err f) = Err f
at_storage s index (Ok t) = does t.reply (with_sub (record s { storage = t.storage }) index t.sub)

abbrev pub at_unit : State → ℕ → ℕ → Result DownResult Fault → Outcome
at_unit s index «unit» (Err f) = Err f
at_unit s index «unit» (Ok t) = does t.reply (state_with_unit (with_sub s index t.sub) «unit» t.«unit»)
