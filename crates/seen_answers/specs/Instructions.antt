-- Which instruction a line of a script asks for.
use Rattle.std.specs.Prelude.{ℕ, ◌%◌, List, codes, Option, None, Some, if◌then◌else◌}
use Rattle.std.specs.Str.{bytes_eq}
use Rattle.script_rows.specs.Words.{number}
use Rattle.record_text.specs.LineWords.{first_word, other_words, without_cpu}
use Rattle.word_names.specs.declared.instruction.Instruction.{Instruction}
use Rattle.word_names.specs.declared.instruction.Instruction.TheVariants.{Start, Test, Store, Modify, Resume, Halt, Clear, Cancel, TestPending, ResetPath, StoreReport, StorePaths}
use Rattle.seen_answers.specs.declared.instruction.CpuAct.{CpuAct}
use Rattle.seen_answers.specs.declared.instruction.CpuAct.TheVariants.{Executes, Loads}

-- the number that a word is; 0 where it is none
abbrev pub number_or_none : Option ℕ → ℕ
number_or_none None = 0
number_or_none (Some value) = value

abbrev pub operand : List ℕ → ℕ
operand word = number_or_none (number word)

-- TEST PENDING INTERRUPTION: the mask of its subclasses and an address
abbrev pub test_pending : List ℕ → Instruction
test_pending operands = TestPending (operand (first_word operands) % 0x100) (operand (first_word (other_words operands)))

-- by its name
abbrev pub named_otherwise : List ℕ → List ℕ → Option Instruction
named_otherwise name operands =
    if bytes_eq name (codes "csch") then Some Clear else
    if bytes_eq name (codes "xsch") then Some Cancel else
    if bytes_eq name (codes "tpi") then Some (test_pending operands) else
    if bytes_eq name (codes "rchp") then Some ResetPath else
    if bytes_eq name (codes "stcrw") then Some StoreReport else
    if bytes_eq name (codes "stcps") then Some StorePaths else
    None

-- `enable` stands for STORE SUBCHANNEL and MODIFY SUBCHANNEL
abbrev pub instruction_named : List ℕ → List ℕ → Option Instruction
instruction_named name operands =
    if bytes_eq name (codes "enable") then Some Modify else
    if bytes_eq name (codes "ssch") then Some Start else
    if bytes_eq name (codes "tsch") then Some Test else
    if bytes_eq name (codes "stsch") then Some Store else
    if bytes_eq name (codes "msch") then Some Modify else
    if bytes_eq name (codes "rsch") then Some Resume else
    if bytes_eq name (codes "hsch") then Some Halt else
    named_otherwise name operands

abbrev pub executing : Option Instruction → Option CpuAct
executing None = None
executing (Some instruction) = Some (Executes instruction)

abbrev pub act_named : List ℕ → List ℕ → Option CpuAct
act_named name operands = if bytes_eq name (codes "show") then Some Loads else executing (instruction_named name operands)

abbrev pub act_in : List ℕ → Option CpuAct
act_in words = act_named (first_word words) (other_words words)

-- what a program does by a line: by its first word, or by what stands behind `cpu N`; a `show` is a load from storage
unfoldable pub act_of : List ℕ → Option CpuAct
act_of line = act_in (without_cpu line)
