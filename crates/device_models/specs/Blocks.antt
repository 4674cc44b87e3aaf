-- A store of blocks, and what each call of it answers and leaves (own).
use Rattle.std.specs.Prelude.{ℕ, ◌+◌, ◌-◌, ◌*◌, ◌==◌, ◌&&◌, nat_lt, Bool, false, if◌then◌else◌, Option, None, Some, List, [], ◌∷◌, ◌++◌, length, take, drop, min, replicate, slice_index, slice_index_or, slice_set}
use Rattle.device_models.specs.declared.command.BlockCommand.{BlockCommand}
use Rattle.device_models.specs.declared.command.BlockCommand.TheVariants.{Write, Read, NoOperation, Sense, Seek, Recalibrate, SearchEqual}
use Rattle.device_models.specs.Commands.{block_command_of}
use Rattle.device_models.specs.Shapes.{InitialStatus, EndingStatus, answer_of_begun, answer_of_ended, part, sense_left}
use Rattle.chan_model.specs.Reports.{Call}
use Rattle.chan_model.specs.declared.report.Call.TheVariants as call
use Rattle.chan_model.specs.Reports.{DeviceAnswer}
use Rattle.chan_model.specs.declared.report.DeviceAnswer.TheVariants as answer

-- 32 blocks of 64 bytes, the number of the current one, the sense byte, the command at hand, how many of its bytes are
-- moved, and the two bytes of the block number that a command brings
pub record Blocks : Type 0 where
  pub blocks : List (List ℕ)
  pub current : ℕ
  pub sense : ℕ
  pub command : Option BlockCommand
  pub moved : ℕ
  pub number : List ℕ

-- at first all bytes are zero
abbrev pub opening : Blocks
opening =
    record {
      blocks = replicate 32 (replicate 64 0);
      current = 0;
      sense = 0;
      command = None;
      moved = 0;
      number = replicate 2 0;
    }

abbrev pub current_block : Blocks → List ℕ
current_block store = slice_index_or store.blocks store.current []

-- A command is begun: it is at hand.
abbrev pub begins : Blocks → BlockCommand → ℕ → InitialStatus Blocks
begins store command status = record { status = status; state = record store { command = Some command; moved = 0 } }

-- a code without a command: unit check, and the sense byte says command reject
abbrev pub rejected : Blocks → InitialStatus Blocks
rejected store = record { status = 0x02; state = record store { sense = 0x80; command = None; moved = 0 } }

abbrev pub begun : Blocks → Option BlockCommand → InitialStatus Blocks
begun store (Some Write) = begins store Write 0
begun store (Some Read) = begins store Read 0
begun store (Some NoOperation) = begins store NoOperation 0x08
begun store (Some Sense) = begins store Sense 0
begun store (Some Seek) = begins store Seek 0
begun store (Some Recalibrate) = begins (record store { current = 0 }) Recalibrate 0x08
begun store (Some SearchEqual) = begins store SearchEqual 0
begun store None = rejected store

-- The bytes that a command gives, at most so many of them: the current block from its start, or the sense byte.
abbrev pub given_by : Option BlockCommand → Blocks → ℕ → List ℕ
given_by (Some Read) store most = part (current_block store) store.moved most
given_by (Some Sense) store most = part (store.sense ∷ []) store.moved most
given_by command store most = []

abbrev pub given_of : Blocks → ℕ → List ℕ
given_of store most = given_by store.command store most

abbrev pub sense_after : Option BlockCommand → ℕ → List ℕ → ℕ
sense_after (Some Sense) sense bytes = sense_left sense bytes
sense_after command sense bytes = sense

abbrev pub supplied : Blocks → List ℕ → Blocks
supplied store bytes = record store { sense = sense_after store.command store.sense bytes; moved = store.moved + length bytes }

-- How many bytes a command takes yet: of the current block, or of a block number.
abbrev pub room_of : Option BlockCommand → ℕ → ℕ
room_of (Some Write) moved = 64 - moved
room_of (Some Seek) moved = 2 - moved
room_of (Some SearchEqual) moved = 2 - moved
room_of command moved = 0

abbrev pub taken_of : Blocks → List ℕ → ℕ
taken_of store bytes = min (room_of store.command store.moved) (length bytes)

-- bytes laid over others from an index on; the rest is kept
abbrev pub laid : List ℕ → ℕ → List ℕ → List ℕ
laid old index bytes = take index old ++ bytes ++ drop (index + length bytes) old

abbrev pub laid_by : Option BlockCommand → Blocks → List ℕ → Blocks
laid_by (Some Write) store bytes = record store { blocks = slice_set store.blocks store.current (laid (current_block store) store.moved bytes) }
laid_by (Some Seek) store bytes = record store { number = laid store.number store.moved bytes }
laid_by (Some SearchEqual) store bytes = record store { number = laid store.number store.moved bytes }
laid_by command store bytes = store

abbrev pub absorbed : Blocks → List ℕ → Blocks
absorbed store bytes =
    record (laid_by store.command store (take (taken_of store bytes) bytes)) { moved = store.moved + taken_of store bytes }

-- A command is ended: none is at hand.
abbrev pub ends : Blocks → ℕ → Bool → EndingStatus Blocks
ends store status more = record { status = status; more = more; state = record store { command = None; moved = 0 } }

-- the block number that a command brought, whole
abbrev pub number_of : Blocks → ℕ
number_of store = 256 * slice_index store.number 0 + slice_index store.number 1

-- the number is that of a block: it is current now; otherwise unit check, and the sense byte says so
abbrev pub sought : Blocks → EndingStatus Blocks
sought store =
    if (store.moved == 2) && nat_lt (number_of store) 32
    then ends (record store { current = number_of store }) 0x0C false
    else ends (record store { sense = 0x20 }) 0x0E false

-- the number is that of the current block: status modifier
abbrev pub searched : Blocks → EndingStatus Blocks
searched store = ends store (if (store.moved == 2) && (number_of store == store.current) then 0x4C else 0x0C) false

abbrev pub ended_by : Option BlockCommand → Blocks → EndingStatus Blocks
ended_by (Some Write) store = ends store 0x0C false
ended_by (Some Read) store = ends store 0x0C (nat_lt store.moved 64)
ended_by (Some NoOperation) store = ends store 0x04 false
ended_by (Some Sense) store = ends store 0x0C false
ended_by (Some Seek) store = sought store
ended_by (Some Recalibrate) store = ends store 0x04 false
ended_by (Some SearchEqual) store = searched store
ended_by None store = ends store 0x0C false

abbrev pub ended : Blocks → EndingStatus Blocks
ended store = ended_by store.command store

-- Each call of a store: its answer, and the store after it.
abbrev pub answer_of : Blocks → Call → DeviceAnswer
answer_of store (call.Initial code came_by) = answer_of_begun (begun store (block_command_of code))
answer_of store (call.Absorb bytes) = answer.Absorbed (taken_of store bytes)
answer_of store (call.Supply most) = answer.Supplied (given_of store most)
answer_of store call.Finish = answer_of_ended (ended store)

abbrev pub after : Blocks → Call → Blocks
after store (call.Initial code came_by) = (begun store (block_command_of code)).state
after store (call.Absorb bytes) = absorbed store bytes
after store (call.Supply most) = supplied store (given_of store most)
after store call.Finish = (ended store).state
