-- Instructions whose operand is given by value, as steps of a channel subsystem (SA22-7832, chapter 14). In a history storage has
-- the operand at real address 0 of the CPU: nobody had to store it there, and what is left there nobody had to fetch (own).
use Rattle.std.specs.Prelude.{ℕ, Result, Ok, Err}
use Rattle.storage_keys.specs.Storage.{Contents, IsAddressable, cleared_storage}
use Rattle.chan_events.specs.Events.{Event}
use Rattle.chan_events.specs.declared.event.Event.TheVariants as event
use Rattle.chan_events.specs.Replies.{PlainReply, Reply, reply_of}
use Rattle.io_step.specs.GivenOperands.{HasOperand, HasRoom, instruction_at, other_at, storage_with, with_block, with_reply}
use Rattle.io_step.specs.declared.by_value.Answered.{Answered}
use Rattle.io_step.specs.declared.by_value.ByValue.{ByValue}
use Rattle.io_step.specs.declared.by_value.OtherByValue.{OtherByValue}
use Rattle.path_select.specs.Choice.{Rule}
use Rattle.channel_subsystem.specs.Hosting.{Hosted, IsHostStep, IsOfSize}
use Rattle.channel_subsystem.specs.declared.host_fault.HostFault.{HostFault}

-- the event that an instruction on a subchannel is, with its operand there
abbrev pub given_event : ℕ → ℕ → ByValue → Event
given_event cpu word i = event.Execute cpu (instruction_at i word 0)

-- its reply, and storage once the block that it leaves is stored there
abbrev pub given_reply : Result Answered HostFault → Result Reply HostFault
given_reply (Ok answered) = Ok (reply_of answered.reply)
given_reply (Err f) = Err f

abbrev pub given_left : Contents → ℕ → Result Answered HostFault → Contents
given_left storage cpu (Ok answered) = with_block storage cpu 0 answered.block
given_left storage cpu (Err f) = storage

-- on each storage of its size that has the operand there it is the step of that event
abbrev pub IsGivenStep : Rule → Hosted → ℕ → ℕ → ByValue → Result Answered HostFault → Hosted → Type 0
IsGivenStep picks old cpu word i answer new =
    (before : Contents) → IsOfSize old.blocks before → IsAddressable before → HasOperand i before cpu 0 →
    IsHostStep picks old before (given_event cpu word i) (given_reply answer) new (given_left before cpu answer)

-- there is such storage: cleared storage, once the operand is put there
pub record IsSomewhere (i : ByValue) (blocks cpu : ℕ) : Type 0 where
  pub operand : HasOperand i (storage_with i blocks) cpu 0
  pub size : IsOfSize blocks (storage_with i blocks)
  pub sound : IsAddressable (storage_with i blocks)

-- the same of an instruction that names no subchannel, whose reply tells all that is stored
abbrev pub other_event : ℕ → OtherByValue → Event
other_event cpu i = event.ExecuteOther cpu (other_at i 0)

abbrev pub other_reply : Result PlainReply HostFault → Result Reply HostFault
other_reply (Ok plain) = Ok (reply_of plain)
other_reply (Err f) = Err f

abbrev pub other_left : Contents → ℕ → Result PlainReply HostFault → Contents
other_left storage cpu (Ok plain) = with_reply storage cpu 0 (reply_of plain)
other_left storage cpu (Err f) = storage

abbrev pub IsOtherGivenStep : Rule → Hosted → ℕ → OtherByValue → Result PlainReply HostFault → Hosted → Type 0
IsOtherGivenStep picks old cpu i answer new =
    (before : Contents) → IsOfSize old.blocks before → IsAddressable before → HasRoom i before cpu 0 →
    IsHostStep picks old before (other_event cpu i) (other_reply answer) new (other_left before cpu answer)

pub record HasRoomSomewhere (i : OtherByValue) (blocks cpu : ℕ) : Type 0 where
  pub room : HasRoom i (cleared_storage blocks) cpu 0
  pub size : IsOfSize blocks (cleared_storage blocks)
  pub sound : IsAddressable (cleared_storage blocks)
