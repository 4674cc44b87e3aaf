-- What a turn of a unit is for (own).
use Rattle.std.specs.Prelude.{ℕ, ◌+◌, ◌*◌, ◌==◌, ◌&&◌, not, Bool, true, false, Option, None, Some, if◌then◌else◌}
use Rattle.chan_model.specs.Reports.{Work}
use Rattle.chan_model.specs.declared.report.Work.TheVariants as work
use Rattle.chan_model.specs.Sides.{same_side}
use Rattle.chan_events.specs.declared.event.Event.TheVariants as event
use Rattle.chan_events.specs.declared.event.UnitAct.TheVariants as act
use Rattle.channel_config.specs.declared.names.SubchannelId.{SubchannelId}
use Rattle.machine_model.specs.State.{State, unit_turn_of}
use Rattle.machine_model.specs.UnitTurns.{UnitTurn}
use Rattle.machine_model.specs.declared.state.UnitTurn.TheVariants as unit_turn
use Rattle.unit_driver.specs.declared.turns.TakenCommand.{TakenCommand}
use Rattle.unit_driver.specs.declared.turns.Turn.{Turn}
use Rattle.unit_driver.specs.declared.turns.Turn.TheVariants.{Enters, Leaves, Owes, Rests}

-- the subsystem-identification word of a subchannel: bits 13 and 14 are its set, bit 15 is one, bits 16 to 31 are its number
-- (SA22-7832, chapter 13)
abbrev pub word_of : SubchannelId → ℕ
word_of id = id.set * 0x20000 + 0x10000 + id.number

-- the command that a unit has at hand
abbrev pub taken_command : ℕ → Work → TakenCommand
taken_command at (work.Call side number command sequence call) = record { «unit» = at; side = side; number = number; command = command }
taken_command at (work.Report report) = record { «unit» = at; side = report.side; number = report.number; command = report.command }

abbrev pub is_command : TakenCommand → TakenCommand → Bool
is_command one other = (one.«unit» == other.«unit») && (same_side one.side other.side && ((one.number == other.number) && (one.command == other.command)))

abbrev pub has_left : Option TakenCommand → TakenCommand → Bool
has_left None command = false
has_left (Some left) command = is_command left command

-- a call of the device is owed, a report that needs none is entered
abbrev pub turn_of_work : ℕ → Work → Turn
turn_of_work at (work.Call side number command sequence call) =
    Owes (record { «unit» = at; side = side; number = number; command = command; sequence = sequence; call = call })
turn_of_work at (work.Report report) = Enters (event.Report at report)

-- a unit that roams leaves its path first, once after each command, and asks for one again
abbrev pub turn_at_work : Bool → Option TakenCommand → ℕ → Work → Turn
turn_at_work roam left at w = if roam && not (has_left left (taken_command at w)) then Leaves (taken_command at w) else turn_of_work at w

abbrev pub turn_away : Bool → ℕ → Option ℕ → Turn
turn_away true at (Some path) = Enters (event.Act at (act.Ask path))
turn_away true at None = Rests
turn_away false at path = Rests

-- what a turn of a unit is for, by what the subsystem says of the unit
abbrev pub turn_by : Bool → Option TakenCommand → ℕ → Option UnitTurn → Turn
turn_by roam left at None = Rests
turn_by roam left at (Some (unit_turn.Takes id path)) = Enters (event.Down (word_of id) path)
turn_by roam left at (Some (unit_turn.Works w)) = turn_at_work roam left at w
turn_by roam left at (Some (unit_turn.Away path)) = turn_away roam at path
turn_by roam left at (Some unit_turn.Rests) = Rests

-- what a turn of a unit is for in a state of the machine
abbrev pub turn_of : Bool → Option TakenCommand → ℕ → State → Turn
turn_of roam left at s = turn_by roam left at (unit_turn_of s at)

abbrev pub leaves : TakenCommand → Turn
leaves command = Leaves command
