-- A console, which keeps one line, and what each call of it answers and leaves (own).
use Rattle.std.specs.Prelude.{ℕ, ◌+◌, ◌-◌, nat_lt, Bool, false, Option, None, Some, List, [], ◌∷◌, ◌++◌, length, take, min}
use Rattle.chan_model.specs.Reports.{Call}
use Rattle.chan_model.specs.declared.report.Call.TheVariants as call
use Rattle.chan_model.specs.Reports.{DeviceAnswer}
use Rattle.chan_model.specs.declared.report.DeviceAnswer.TheVariants as answer
use Rattle.device_models.specs.declared.console_command.ConsoleCommand.{ConsoleCommand}
use Rattle.device_models.specs.declared.console_command.ConsoleCommand.TheVariants.{Write, Read, NoOperation, Sense}
use Rattle.device_models.specs.ConsoleCommands.{console_command_of}
use Rattle.device_models.specs.Shapes.{InitialStatus, EndingStatus, answer_of_begun, answer_of_ended, part, sense_left}

-- the line, the sense byte, the command at hand, and how many bytes it has given
pub record Lines : Type 0 where
  pub line : List ℕ
  pub sense : ℕ
  pub command : Option ConsoleCommand
  pub given : ℕ

-- how many bytes a command has to give
abbrev pub size_of : Option ConsoleCommand → List ℕ → ℕ
size_of (Some Write) line = 0
size_of (Some Read) line = length line
size_of (Some NoOperation) line = 0
size_of (Some Sense) line = 1
size_of None line = 0

-- at first the line is empty
abbrev pub opening : Lines
opening = record { line = []; sense = 0; command = None; given = 0 }

-- A command is begun: it is at hand. A write begins an empty line.
abbrev pub begins : Lines → ConsoleCommand → ℕ → InitialStatus Lines
begins console command status = record { status = status; state = record console { command = Some command; given = 0 } }

-- a code without a command: unit check, and the sense byte says command reject
abbrev pub rejected : Lines → InitialStatus Lines
rejected console = record { status = 0x02; state = record console { sense = 0x80; command = None; given = 0 } }

abbrev pub begun : Lines → Option ConsoleCommand → InitialStatus Lines
begun console (Some Write) = begins (record console { line = [] }) Write 0
begun console (Some Read) = begins console Read 0
begun console (Some NoOperation) = begins console NoOperation 0x08
begun console (Some Sense) = begins console Sense 0
begun console None = rejected console

-- The bytes that a command gives, at most so many of them: the line, or the sense byte.
abbrev pub given_by : Option ConsoleCommand → Lines → ℕ → List ℕ
given_by (Some Read) console most = part console.line console.given most
given_by (Some Sense) console most = part (console.sense ∷ []) console.given most
given_by command console most = []

abbrev pub given_of : Lines → ℕ → List ℕ
given_of console most = given_by console.command console most

abbrev pub sense_after : Option ConsoleCommand → ℕ → List ℕ → ℕ
sense_after (Some Sense) sense bytes = sense_left sense bytes
sense_after command sense bytes = sense

abbrev pub supplied : Lines → List ℕ → Lines
supplied console bytes =
    record console { sense = sense_after console.command console.sense bytes; given = console.given + length bytes }

-- How many bytes a command takes yet: what is left of 126 in the line.
abbrev pub room_of : Option ConsoleCommand → List ℕ → ℕ
room_of (Some Write) line = 126 - length line
room_of command line = 0

abbrev pub taken_of : Lines → List ℕ → ℕ
taken_of console bytes = min (room_of console.command console.line) (length bytes)

abbrev pub absorbed : Lines → List ℕ → Lines
absorbed console bytes = record console { line = console.line ++ take (taken_of console bytes) bytes }

-- A command is ended: none is at hand.
abbrev pub ends : Lines → ℕ → Bool → EndingStatus Lines
ends console status more = record { status = status; more = more; state = record console { command = None; given = 0 } }

abbrev pub ended_by : Option ConsoleCommand → Lines → EndingStatus Lines
ended_by (Some Write) console = ends console 0x0C false
ended_by (Some Read) console = ends console 0x0C (nat_lt console.given (length console.line))
ended_by (Some NoOperation) console = ends console 0x04 false
ended_by (Some Sense) console = ends console 0x0C false
ended_by None console = ends console 0x0C false

abbrev pub ended : Lines → EndingStatus Lines
ended console = ended_by console.command console

-- Each call of a console: its answer, and the console after it.
abbrev pub answer_of : Lines → Call → DeviceAnswer
answer_of console (call.Initial code came_by) = answer_of_begun (begun console (console_command_of code))
answer_of console (call.Absorb bytes) = answer.Absorbed (taken_of console bytes)
answer_of console (call.Supply most) = answer.Supplied (given_of console most)
answer_of console call.Finish = answer_of_ended (ended console)

abbrev pub after : Lines → Call → Lines
after console (call.Initial code came_by) = (begun console (console_command_of code)).state
after console (call.Absorb bytes) = absorbed console bytes
after console (call.Supply most) = supplied console (given_of console most)
after console call.Finish = (ended console).state
