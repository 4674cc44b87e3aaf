-- The number of each answer, as a host reads it that has numbers alone (own): 0 or more is an answer, less is a refusal.
use Rattle.std.specs.Prelude.{ℕ, ℤ, pos, ◌-ℤ◌, Bool, Result, Ok, Err, if◌then◌else◌}
use Rattle.chan_model.specs.ConditionCodes.{code_of, stcrw_code, tpi_code}
use Rattle.chan_model.specs.declared.answer.ConditionCode.{ConditionCode}
use Rattle.chan_model.specs.declared.answer.ConditionCode.TheVariants.{Zero, One, Two, Three}
use Rattle.chan_model.specs.declared.fault.Fault.{Fault}
use Rattle.chan_model.specs.declared.fault.Fault.TheVariants as fault
use Rattle.chan_events.specs.declared.reply.Reply as declared_reply
use Rattle.chan_events.specs.declared.reply.Reply.TheVariants as reply
use Rattle.channel_config.specs.declared.config.ConfigFault.{ConfigFault}
use Rattle.channel_config.specs.declared.config.ConfigFault.TheVariants as config_fault
use Rattle.channel_config.specs.declared.config.ConfigRule.{ConfigRule}
use Rattle.channel_config.specs.declared.config.ConfigRule.TheVariants as rule
use Rattle.channel_subsystem.specs.declared.host_fault.HostFault.{HostFault}
use Rattle.channel_subsystem.specs.declared.host_fault.HostFault.TheVariants as host_fault
use Rattle.storage_keys.specs.declared.StorageFault.{StorageFault}
use Rattle.storage_keys.specs.declared.StorageFault.TheVariants.{Protection, Addressing, Specification}

-- What is answered

-- a condition code (SA22-7832, chapter 14)
abbrev pub code_number : ConditionCode → ℕ
code_number Zero = 0
code_number One = 1
code_number Two = 2
code_number Three = 3

-- whether a signal that was met was taken
abbrev pub taken_number : Bool → ℕ
taken_number taken = if taken then 1 else 0

-- the condition code of an instruction, or 0 where it sets none; of a choice what was done: 0 nothing was due, 1 a program was
-- offered, 2 a Reset was sent, 3 a Halt was sent, 4 status was made pending; of a signal 1 where it was taken; of all else 0
abbrev pub reply_number : {B U D : Type 0} → declared_reply.Reply B U D → ℕ
reply_number reply.Done = 0
reply_number (reply.Shown bytes) = 0
reply_number (reply.Code answer) = code_number (code_of answer)
reply_number (reply.Status answer scsw) = code_number (code_of answer)
reply_number (reply.Interruption found) = code_number (tpi_code found)
reply_number (reply.PathReset code) = code_number code
reply_number (reply.ChannelReport report) = code_number (stcrw_code report)
reply_number (reply.Paths engaged) = 0
reply_number (reply.Offered number path resumed) = 1
reply_number (reply.ResetSent number path) = 2
reply_number (reply.HaltSent number path) = 3
reply_number reply.Pending = 4
reply_number reply.Idle = 0
reply_number (reply.Up signal taken sent) = taken_number taken
reply_number (reply.Down signal taken sent) = taken_number taken

-- Why something is refused: the number below zero of this size

abbrev pub below : ℕ → ℤ
below size = pos 0 -ℤ pos size

-- want of memory; the machine is closed, or open already; the call is not for its stage; a number or a buffer that no call takes;
-- storage is of another size; the numbers are used up
abbrev pub no_memory : ℕ
no_memory = 1

abbrev pub at_other_stage : ℕ
at_other_stage = 4

abbrev pub bad_argument : ℕ
bad_argument = 5

abbrev pub other_size : ℕ
other_size = 7

abbrev pub numbers_used_up : ℕ
numbers_used_up = 8

-- 256 and the code of the program interruption (SA22-7832, chapter 6)
abbrev pub storage_size : StorageFault → ℕ
storage_size Protection = 0x104
storage_size Addressing = 0x105
storage_size Specification = 0x106

abbrev pub fault_size : Fault → ℕ
fault_size fault.NoMemory = no_memory
fault_size fault.WireFull = 16
fault_size fault.NotSent = 17
fault_size fault.NoSuchSubchannel = 18
fault_size fault.NoSuchPath = 19
fault_size fault.NoSuchUnit = 20
fault_size fault.NotNow = 21
fault_size (fault.ConfigBad broken) = 0x200
fault_size (fault.ScriptBad line broken) = 0x300
fault_size (fault.Storage f) = storage_size f
fault_size fault.Operand = 0x115

abbrev pub refusal_size : HostFault → ℕ
refusal_size host_fault.OtherSize = other_size
refusal_size host_fault.NumbersUsedUp = numbers_used_up
refusal_size host_fault.NoMemory = no_memory
refusal_size (host_fault.Refused f) = fault_size f

-- 512 and the number of the rule that a configuration breaks
abbrev pub rule_size : ConfigRule → ℕ
rule_size rule.StorageSize = 0x201
rule_size rule.ChannelPath = 0x202
rule_size rule.UnitNumber = 0x203
rule_size rule.UnitOfSubchannel = 0x204
rule_size rule.PathsOfSubchannel = 0x205
rule_size rule.SharedUnit = 0x206
rule_size rule.SubchannelName = 0x207
rule_size rule.Sets = 0x208

abbrev pub config_size : ConfigFault → ℕ
config_size config_fault.NoMemory = no_memory
config_size (config_fault.Rule broken) = rule_size broken

-- the number of an answer
abbrev pub answer_number : {B U D : Type 0} → Result (declared_reply.Reply B U D) HostFault → ℤ
answer_number (Ok r) = pos (reply_number r)
answer_number (Err f) = below (refusal_size f)

abbrev pub config_number : {A : Type 0} → Result A ConfigFault → ℤ
config_number (Ok done) = pos 0
config_number (Err f) = below (config_size f)
