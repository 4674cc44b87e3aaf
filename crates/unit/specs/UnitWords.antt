-- What the calls of a unit say of it beside its tables (own).
use Rattle.std.specs.Prelude.{◌≡◌, ◌≤◌, ℕ, Bool, false, true, ◌==◌, ◌&&◌, Option, None, Some, IfSome, is_some, IsTrue, List, [], length}
use Rattle.chan_model.specs.declared.names.Side.{Side}
use Rattle.chan_model.specs.declared.names.Side.TheVariants.{First, Second}
use Rattle.chan_model.specs.Signals.{Down, KeptUp, Load, Up, load_bytes, map_taken, up_in, up_length}
use Rattle.chan_model.specs.declared.signal.Down.TheVariants as down
use Rattle.chan_model.specs.declared.signal.Taken.{Taken}
use Rattle.chan_model.specs.declared.unit_state.Connection.{Connection}
use Rattle.chan_model.specs.declared.unit_state.Connection.TheVariants.{On, Ask, Away}
use Rattle.chan_model.specs.declared.unit_state.Own.{Own}
use Rattle.chan_model.specs.declared.unit_state.Own.TheVariants.{Idle, Owned}
use Rattle.chan_model.specs.declared.unit_state.CurrentCommand.{CurrentCommand}
use Rattle.chan_model.specs.declared.unit_state.UnitState.{UnitState}
use Rattle.chan_model.specs.Reports.{Report}
use Rattle.chan_model.specs.UnitReports.{report_on}
use Rattle.chan_model.specs.UnitTable.{unit_takes, outcome_of, side_of, owns, is_owner, is_owner_on}

-- the signal is answered; neither its path nor what the control unit may do decides that
abbrev pub is_unit_answered : UnitState → Side → Down → Bool
is_unit_answered u side signal = is_some (outcome_of (unit_takes u side 0 signal false)).sent

-- a Took or a Give is of the last command of the program that holds the device, and a Give of the connection at hand
abbrev pub is_of_command : UnitState → Side → Down → Bool
is_of_command u side (down.Took t n s room) = is_owner u.own side t && (n == u.last_command)
is_of_command u side (down.Give bytes t c n s) = is_owner_on u.own side t c && (n == u.last_command)
is_of_command u side signal = false

-- the number of the last connection of the program that holds the device
abbrev pub connection_of : Connection → ℕ
connection_of (On p c) = c
connection_of (Ask p c) = c
connection_of (Away c) = c

abbrev pub last_connection : Own → ℕ
last_connection Idle = 0
last_connection (Owned side t connection) = connection_of connection

-- the number of the last chunk of the command at hand
abbrev pub last_sequence : Option CurrentCommand → ℕ
last_sequence None = 0
last_sequence (Some x) = x.sequence

-- the bytes of a read that were sent last and are not answered
abbrev pub bytes_of : Option Load → List ℕ
bytes_of None = []
bytes_of (Some load) = load_bytes load

abbrev pub unanswered_bytes : Option CurrentCommand → List ℕ
unanswered_bytes None = []
unanswered_bytes (Some x) = bytes_of x.unanswered

-- what came of a report: the bytes of its Data are those that are not answered, which are as many
abbrev pub reported : Option CurrentCommand → Taken KeptUp → Taken Up
reported current outcome = map_taken (λ signal. up_in signal (unanswered_bytes current)) outcome

abbrev pub AreOfCurrent : Option CurrentCommand → Taken KeptUp → Type 0
AreOfCurrent current outcome = IfSome outcome.sent (λ sent. up_length sent.signal ≤ length (unanswered_bytes current))

-- a report of the program that is connected is neither stale nor against the law of devices
abbrev pub IsAllowed : UnitState → Report → Type 0
IsAllowed u r = is_some (report_on u 0 (On 0 0) u.current r) ≡ true

-- A unit's other side.
abbrev pub other_of : Side → Side
other_of First = Second
other_of Second = First

-- the program that holds the device is the same, as far with its command
pub record IsSameProgram (old new : UnitState) : Type 0 where
  pub own : new.own ≡ old.own
  pub last_command : new.last_command ≡ old.last_command
  pub current : new.current ≡ old.current
  pub halted : new.halted ≡ old.halted

-- a signal of a side leaves the other side as it was, and its program, and gives it none
pub record LeavesOther (side : Side) (old new : UnitState) : Type 0 where
  pub kept : side_of new (other_of side) ≡ side_of old (other_of side)
  pub owner : owns new.own (other_of side) ≡ owns old.own (other_of side)
  pub program : IsTrue (owns old.own (other_of side)) → IsSameProgram old new
