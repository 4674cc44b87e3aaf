-- What the device of a unit is asked for and answers, in numbers and bytes, and what a turn of a unit and of a subchannel is for (own).
use Rattle.std.specs.Prelude.{◌≡◌, ℕ, ℤ, pos, negsuc, ◌==◌, nat_le, not, List, [], ◌∷◌, length, Option, Some, None, if◌then◌else◌}
use Rattle.std.specs.Option.{option_or}
use Rattle.chan_model.specs.declared.fault.Fault.TheVariants as fault
use Rattle.chan_model.specs.Reports.{Call, DeviceAnswer, Work}
use Rattle.chan_model.specs.declared.names.Side.{Side}
use Rattle.chan_model.specs.declared.report.Call.TheVariants as call
use Rattle.chan_model.specs.declared.report.DeviceAnswer.TheVariants as answer
use Rattle.chan_model.specs.declared.report.Work.TheVariants as work
use Rattle.chan_events.specs.Events.{Event}
use Rattle.chan_events.specs.declared.event.Event.TheVariants as event
use Rattle.machine_model.specs.State.{State, sub_of, unit_turn_of}
use Rattle.machine_model.specs.UnitTurns.{UnitTurn}
use Rattle.machine_model.specs.declared.state.UnitTurn.TheVariants as unit_turn
use Rattle.signal_step.specs.PathTurns.{path_turn_of}
use Rattle.subchannel_model.specs.declared.state.Subchannel.{Subchannel}
use Rattle.unit_driver.specs.Turns.{word_of}
use Rattle.event_lines.specs.Sides.{side_number, side_numbered}
use Rattle.host_machine.specs.Answers.{below, fault_size}
use Rattle.host_machine.specs.Dues.{Due, Enters_event, Calls_device, Nothing_due, Is_unknown}
use Rattle.host_machine.specs.Given.{written}
use Rattle.host_machine.specs.Hosts.{Enters, Stays, WhereItRuns}
use Rattle.host_machine.specs.Machines.{Running}
use Rattle.host_machine.specs.declared.host_machine.HostMachine.{HostMachine}
use Rattle.host_machine.specs.declared.turns.PathDue.{PathDue}
use Rattle.host_machine.specs.declared.turns.PathDue.TheVariants as path_due
use Rattle.host_machine.specs.declared.works.HostAnswer.{HostAnswer}
use Rattle.host_machine.specs.declared.works.HostWork.{HostWork}

-- The call of a device, in numbers: kind 0 none, 1 the initial status of a command, 2 to absorb bytes, 3 to supply bytes, 4 the final
-- status

abbrev pub no_work : HostWork
no_work = record { number = 0; command = 0; sequence = 0; kind = 0; side = 0; code = 0; from_side = 0; from_path = 0; count = 0 }

-- what a call says, in a work that names its program, command and chunk
abbrev pub with_call : HostWork → Call → HostWork
with_call w (call.Initial code came_by) = record w { kind = 1; code = code; from_side = side_number came_by.side; from_path = came_by.path }
with_call w (call.Absorb bytes) = record w { kind = 2; count = length bytes }
with_call w (call.Supply most) = record w { kind = 3; count = most }
with_call w call.Finish = record w { kind = 4 }

abbrev pub work_at : (number command sequence : ℕ) → Side → HostWork
work_at number command sequence side = record no_work { number = number; command = command; sequence = sequence; side = side_number side }

-- the call that the turn of a unit asks for, where it asks for one, with the bytes that are to be absorbed
abbrev pub call_of_work : Work → HostWork
call_of_work (work.Call side number command sequence c) = with_call (work_at number command sequence side) c
call_of_work (work.Report report) = no_work

-- a program that is away names the path that it may ask for
abbrev pub work_away : Option ℕ → HostWork
work_away None = no_work
work_away (Some path) = record no_work { from_path = path }

abbrev pub host_work : Option UnitTurn → HostWork
host_work (Some (unit_turn.Works w)) = call_of_work w
host_work (Some (unit_turn.Away path)) = work_away path
host_work other = no_work

abbrev pub bytes_of_call : Call → List ℕ
bytes_of_call (call.Absorb bytes) = bytes
bytes_of_call other = []

abbrev pub bytes_of_work : Work → List ℕ
bytes_of_work (work.Call side number command sequence c) = bytes_of_call c
bytes_of_work (work.Report report) = []

abbrev pub host_bytes : Option UnitTurn → List ℕ
host_bytes (Some (unit_turn.Works w)) = bytes_of_work w
host_bytes other = []

-- what the unit is to do: 0 nothing, 1 its device is to be called, 2 a signal waits for it, 3 it has a report that its device is not
-- needed for, 4 its program is away and may ask for a path, 5 for none; refused where there is no such unit
abbrev pub call_number : Work → ℤ
call_number (work.Call side number command sequence c) = pos 1
call_number (work.Report report) = pos 3

abbrev pub away_number : Option ℕ → ℤ
away_number None = pos 5
away_number (Some path) = pos 4

abbrev pub work_number : Option UnitTurn → ℤ
work_number None = below (fault_size fault.NoSuchUnit)
work_number (Some (unit_turn.Works w)) = call_number w
work_number (Some (unit_turn.Takes id path)) = pos 2
work_number (Some (unit_turn.Away path)) = away_number path
work_number (Some unit_turn.Rests) = pos 0

-- what the host is told of it
abbrev pub Asks : Option UnitTurn → ℤ → HostWork → (room left : List ℕ) → Type 0
Asks turn number w room left = (number ≡ work_number turn) × ((w ≡ host_work turn) × (left ≡ written (host_bytes turn) room))

-- The answer of a device, in numbers: kind 1 the initial status is empty, 2 so many bytes were absorbed, 3 these bytes are supplied,
-- 4 the command ended with this status, and the device had more bytes or not

abbrev pub absorbed : ℕ → Option DeviceAnswer
absorbed count = if nat_le count 0xFFFF then Some (answer.Absorbed count) else None

abbrev pub supplied : List ℕ → Option DeviceAnswer
supplied bytes = if nat_le (length bytes) 256 then Some (answer.Supplied bytes) else None

abbrev pub ended : HostAnswer → Option DeviceAnswer
ended a = if nat_le a.status 0xFF then Some (answer.Ended (record { 0 = a.status }) (not (a.more == 0))) else None

abbrev pub device_answer : HostAnswer → List ℕ → Option DeviceAnswer
device_answer a bytes =
    if a.kind == 1 then Some answer.Begins else (if a.kind == 2 then absorbed a.count else (if a.kind == 3 then supplied bytes else (if a.kind == 4 then ended a else None)))

-- the event that hands it in, of the command and the chunk of the call
abbrev pub report_with : ℕ → HostWork → Option Side → Option DeviceAnswer → Option Event
report_with at w (Some side) (Some a) = Some (event.Report at (record { side = side; answer = a; number = w.number; command = w.command; sequence = w.sequence }))
report_with at w other missing = None

abbrev pub report_event : ℕ → HostWork → HostAnswer → List ℕ → Option Event
report_event at w a bytes = report_with at w (side_numbered w.side) (device_answer a bytes)

-- What a turn is for

-- of a unit: the signal that waits for it, or the report that needs no call; else its device is to be called, or nothing
abbrev pub due_by_work : ℕ → Work → Due
due_by_work at (work.Call side number command sequence c) = Calls_device
due_by_work at (work.Report report) = Enters_event (event.Report at report)

abbrev pub due_by : ℕ → Option UnitTurn → Due
due_by at None = Is_unknown
due_by at (Some (unit_turn.Takes id path)) = Enters_event (event.Down (word_of id) path)
due_by at (Some (unit_turn.Works w)) = due_by_work at w
due_by at (Some (unit_turn.Away path)) = Nothing_due
due_by at (Some unit_turn.Rests) = Nothing_due

abbrev pub due_of_unit : State → ℕ → Due
due_of_unit s at = due_by at (unit_turn_of s at)

-- of a subchannel: that of the first of its paths on which one is due
abbrev pub due_on : State → ℕ → List ℕ → Option Event
due_on s word [] = None
due_on s word (chpid ∷ chpids) = option_or (path_turn_of s word chpid) (due_on s word chpids)

abbrev pub due_where : Option Event → Due
due_where None = Nothing_due
due_where (Some e) = Enters_event e

abbrev pub due_of_found : State → ℕ → Option Subchannel → Due
due_of_found s word None = Is_unknown
due_of_found s word (Some sub) = due_where (due_on s word sub.setup.paths)

abbrev pub due_of_subchannel : State → ℕ → Due
due_of_subchannel s word = due_of_found s word (sub_of s word)

-- what stands for the event of a turn of a subchannel that a word names, and what stands for such an event
abbrev pub event_due : ℕ → PathDue → Option Event
event_due word (path_due.Takes path) = Some (event.Up word path)
event_due word path_due.Chooses = Some (event.Choose word)
event_due word path_due.Nothing = None

abbrev pub path_due_of : Option Event → PathDue
path_due_of (Some (event.Up word path)) = path_due.Takes path
path_due_of (Some (event.Choose word)) = path_due.Chooses
path_due_of other = path_due.Nothing

abbrev pub due_by_path : ℕ → Option PathDue → Due
due_by_path word None = Is_unknown
due_by_path word (Some d) = due_where (event_due word d)

-- 1 where an event was entered
abbrev pub turned : ℤ → ℤ
turned (pos answered) = pos 1
turned (negsuc refused) = negsuc refused

-- an event is entered that is due
abbrev pub TurnsWith : Event → Running → (bytes keys : List ℕ) → ℤ → Running → (after left : List ℕ) → Type 0
TurnsWith e old bytes keys number new after left = (entered : ℤ) × Enters old bytes keys e entered new after left × (number ≡ turned entered)

-- the event that is due is entered; 2 where a device is to be called, 0 where nothing is due
abbrev pub TurnsBy : ℕ → Due → Running → (bytes keys : List ℕ) → ℤ → Running → (after left : List ℕ) → Type 0
TurnsBy unknown (Enters_event e) old bytes keys number new after left = TurnsWith e old bytes keys number new after left
TurnsBy unknown Calls_device old bytes keys number new after left = Stays old new number (pos 2) × ((after ≡ bytes) × (left ≡ keys))
TurnsBy unknown Nothing_due old bytes keys number new after left = Stays old new number (pos 0) × ((after ≡ bytes) × (left ≡ keys))
TurnsBy unknown Is_unknown old bytes keys number new after left = Stays old new number (below unknown) × ((after ≡ bytes) × (left ≡ keys))

-- of a unit, and of a subchannel
abbrev pub UnitTurns : Running → (bytes keys : List ℕ) → ℕ → ℤ → Running → (after left : List ℕ) → Type 0
UnitTurns old bytes keys at number new after left = TurnsBy (fault_size fault.NoSuchUnit) (due_of_unit old.subsystem.machine at) old bytes keys number new after left

abbrev pub SubchannelTurns : Running → (bytes keys : List ℕ) → ℕ → ℤ → Running → (after left : List ℕ) → Type 0
SubchannelTurns old bytes keys word number new after left =
    TurnsBy (fault_size fault.NoSuchSubchannel) (due_of_subchannel old.subsystem.machine word) old bytes keys number new after left

-- of a machine
abbrev pub TurnsUnit : HostMachine → (bytes keys : List ℕ) → ℕ → ℤ → HostMachine → (after left : List ℕ) → Type 0
TurnsUnit old bytes keys at number new after left =
    WhereItRuns (λ before answered now. UnitTurns before bytes keys at answered now after left) ((after ≡ bytes) × (left ≡ keys)) old number new

abbrev pub TurnsSubchannel : HostMachine → (bytes keys : List ℕ) → ℕ → ℤ → HostMachine → (after left : List ℕ) → Type 0
TurnsSubchannel old bytes keys word number new after left =
    WhereItRuns (λ before answered now. SubchannelTurns before bytes keys word answered now after left) ((after ≡ bytes) × (left ≡ keys)) old number new
