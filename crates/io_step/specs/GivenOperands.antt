-- Instructions whose operand is given by value, and which leave the block that they would store. They come to what the same
-- instruction comes to wherever storage has that operand (SA22-7832, chapter 14).
use Rattle.std.specs.Prelude.{◌≡◌, ℕ, List, [], ◌∷◌, Option, None, Some, Result, Ok, Err}
use Rattle.zbits.specs.Words.{bytes_of_words}
use Rattle.storage_keys.specs.Storage.{Contents, cleared_storage, operand_at, operand_check, operand_stored, put_at}
use Rattle.chan_model.specs.declared.fault.Fault.{Fault}
use Rattle.chan_events.specs.ReportWords.{report_word}
use Rattle.chan_events.specs.declared.event.Instruction.{Instruction}
use Rattle.chan_events.specs.declared.event.Instruction.TheVariants as instruction
use Rattle.chan_events.specs.declared.event.OtherInstruction.{OtherInstruction}
use Rattle.chan_events.specs.declared.event.OtherInstruction.TheVariants as other
use Rattle.chan_events.specs.Replies.{Reply, reply_of}
use Rattle.chan_events.specs.declared.reply.Reply.TheVariants as reply
use Rattle.machine_model.specs.OtherSteps.{code_check, code_stored}
use Rattle.io_step.specs.declared.by_value.ByValue.{ByValue}
use Rattle.io_step.specs.declared.by_value.ByValue.TheVariants as given
use Rattle.io_step.specs.declared.by_value.Block.{Block}
use Rattle.io_step.specs.declared.by_value.Block.TheVariants as block
use Rattle.io_step.specs.declared.by_value.Answered.{Answered}
use Rattle.io_step.specs.declared.by_value.OtherByValue.{OtherByValue}
use Rattle.io_step.specs.declared.by_value.OtherByValue.TheVariants as given_other

-- the instruction that it is with its operand at an address
abbrev pub instruction_at : ByValue → ℕ → ℕ → Instruction
instruction_at (given.Ssch orb) word address = instruction.Ssch word address
instruction_at (given.Msch schib) word address = instruction.Msch word address
instruction_at given.Stsch word address = instruction.Stsch word address
instruction_at given.Tsch word address = instruction.Tsch word address

-- storage has the operand there: the bytes that are given, or room for the block that may be stored
abbrev pub HasOperand : ByValue → Contents → ℕ → ℕ → Type 0
HasOperand (given.Ssch orb) storage cpu address = operand_at storage cpu address 12 4 ≡ Ok orb
HasOperand (given.Msch schib) storage cpu address = operand_at storage cpu address 52 4 ≡ Ok schib
HasOperand given.Stsch storage cpu address = operand_check storage cpu address 52 4 ≡ Ok tt
HasOperand given.Tsch storage cpu address = operand_check storage cpu address 64 4 ≡ Ok tt

-- the bytes of a block that is left to be stored, and storage after they are stored
abbrev pub block_bytes : Option Block → List ℕ
block_bytes None = []
block_bytes (Some (block.Schib bytes)) = bytes
block_bytes (Some (block.Irb bytes)) = bytes

abbrev pub with_block : Contents → ℕ → ℕ → Option Block → Contents
with_block storage cpu address None = storage
with_block storage cpu address (Some left) = operand_stored storage cpu address (block_bytes (Some left))

-- what it answers, and the storage that is left once its block is stored
abbrev pub outcome : Result Answered Fault → Result Reply Fault
outcome (Ok answered) = Ok (reply_of answered.reply)
outcome (Err f) = Err f

abbrev pub storage_after : Contents → ℕ → ℕ → Result Answered Fault → Contents
storage_after storage cpu address (Ok answered) = with_block storage cpu address answered.block
storage_after storage cpu address (Err f) = storage

-- the same of the instructions that name no subchannel, whose reply tells all that is stored
abbrev pub other_at : OtherByValue → ℕ → OtherInstruction
other_at (given_other.Tpi mask) address = other.Tpi mask address
other_at given_other.Stcrw address = other.Stcrw address
other_at given_other.Stcps address = other.Stcps address

abbrev pub HasRoom : OtherByValue → Contents → ℕ → ℕ → Type 0
HasRoom (given_other.Tpi mask) storage cpu address = code_check storage cpu address ≡ Ok tt
HasRoom given_other.Stcrw storage cpu address = operand_check storage cpu address 4 4 ≡ Ok tt
HasRoom given_other.Stcps storage cpu address = operand_check storage cpu address 32 32 ≡ Ok tt

abbrev pub with_reply : Contents → ℕ → ℕ → Reply → Contents
with_reply storage cpu address (reply.Interruption found) = code_stored storage cpu address found
with_reply storage cpu address (reply.ChannelReport report) = operand_stored storage cpu address (bytes_of_words (report_word report ∷ []))
with_reply storage cpu address (reply.Paths engaged) = operand_stored storage cpu address engaged
with_reply storage cpu address r = storage

-- storage of so many blocks at first, which has the operand at address 0
abbrev pub storage_with : ByValue → ℕ → Contents
storage_with (given.Ssch orb) blocks = put_at (cleared_storage blocks) 0 orb
storage_with (given.Msch schib) blocks = put_at (cleared_storage blocks) 0 schib
storage_with instruction blocks = cleared_storage blocks
