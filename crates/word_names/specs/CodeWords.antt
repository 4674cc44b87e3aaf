-- What an instruction says by its condition code (SA22-7832, chapter 14; the words are this project's own).
use Rattle.std.specs.Prelude.{ℕ, ◌*◌, ◌==◌, ◌&&◌, ◌||◌, not, Bool, true, false, List, [], ◌∷◌, ◌++◌, codes, Option, None, Some, if◌then◌else◌}
use Rattle.zbits.specs.Flags.{flag_of}
use Rattle.chan_model.specs.declared.answer.ConditionCode.{ConditionCode}
use Rattle.chan_model.specs.declared.answer.ConditionCode.TheVariants.{Zero, One, Two, Three}
use Rattle.word_parts.specs.Numbers.{hex_text}
use Rattle.word_parts.specs.Parts.{Named, flag, names_text}
use Rattle.word_parts.specs.ScswNames.{status_control}
use Rattle.word_names.specs.declared.instruction.Found.{Found}
use Rattle.word_names.specs.declared.instruction.Instruction.{Instruction}
use Rattle.word_names.specs.declared.instruction.Instruction.TheVariants.{Start, Resume, Halt, Clear, Cancel, Modify, Store, Test, TestPending, ResetPath, StoreReport}

-- the subclasses of a mask, at the left end of a word
abbrev pub subclasses : List Named
subclasses =
    flag 0 (codes "0")
    ∷ flag 1 (codes "1")
    ∷ flag 2 (codes "2")
    ∷ flag 3 (codes "3")
    ∷ flag 4 (codes "4")
    ∷ flag 5 (codes "5")
    ∷ flag 6 (codes "6")
    ∷ flag 7 (codes "7")
    ∷ []

-- what is in progress, by word 0 of a subchannel-status word
abbrev pub progress : List Named
progress =
    flag 17 (codes "start function")
    ∷ flag 18 (codes "halt function")
    ∷ flag 19 (codes "clear function")
    ∷ flag 20 (codes "resume pending")
    ∷ flag 21 (codes "start pending")
    ∷ flag 22 (codes "halt pending")
    ∷ flag 23 (codes "clear pending")
    ∷ flag 24 (codes "subchannel active")
    ∷ flag 25 (codes "device active")
    ∷ flag 26 (codes "suspended")
    ∷ []

abbrev pub control_of : Option Found → ℕ
control_of None = 0
control_of (Some found) = found.control

abbrev pub progress_text : List ℕ → ℕ → List ℕ
progress_text text control = (text ++ names_text (codes ", ") progress control) ++ codes ")"

abbrev pub status_text : ℕ → List ℕ
status_text control = names_text (codes ", ") status_control control

abbrev pub pending_text : ℕ → List ℕ
pending_text control = (codes "  status is pending (" ++ status_text control) ++ codes ")"

-- bits 17 to 19: start, halt and clear function
abbrev pub is_start_alone : ℕ → Bool
is_start_alone control = flag_of control 17 && (not (flag_of control 18) && not (flag_of control 19))

-- bits 20, 21 and 26: resume pending, start pending, suspended
abbrev pub waits : ℕ → Bool
waits control = flag_of control 20 || (flag_of control 21 || flag_of control 26)

-- the first cause of code 2
abbrev pub resume_cause : ℕ → List ℕ
resume_cause control =
    if not (is_start_alone control) then codes "  not the start function alone is in progress ("
    else if flag_of control 20 then codes "  a resume is pending already ("
    else codes "  the program may not be suspended ("

abbrev pub cancel_cause : ℕ → List ℕ
cancel_cause control =
    if not (is_start_alone control) then codes "  not the start function alone is in progress ("
    else if not (waits control) then codes "  no start or resume is pending, and no program is suspended ("
    else codes "  the subchannel is active ("

abbrev pub assigned_words : List ℕ
assigned_words = codes "  an interruption code is stored at real B8, three words"

abbrev pub stored_words : List ℕ
stored_words = codes "  an interruption code is stored at real "

abbrev pub operand_text : ℕ → List ℕ
operand_text address = (stored_words ++ hex_text 1 address) ++ codes ", two words"

abbrev pub is_assigned : ℕ → Bool
is_assigned address = address == 0

-- the operand of TEST PENDING INTERRUPTION, or with address 0 the area that is assigned for the code
abbrev pub stored_text : ℕ → List ℕ
stored_text address = if is_assigned address then assigned_words else operand_text address

abbrev pub operational_words : List ℕ
operational_words = codes "  not operational: subchannel "

abbrev pub enabled_words : Bool → List ℕ
enabled_words enabled = if enabled then codes " is not provided" else codes " is not enabled"

abbrev pub disabled_text : Found → List ℕ
disabled_text found = (operational_words ++ hex_text 1 found.subchannel) ++ enabled_words found.enabled

abbrev pub absent_words : List ℕ
absent_words = codes "  not operational: there is no such subchannel"

abbrev pub not_operational_text : Option Found → List ℕ
not_operational_text None = absent_words
not_operational_text (Some found) = disabled_text found

-- code 0
abbrev pub zero_words : Instruction → List ℕ
zero_words Store = codes "  stored"
zero_words Test = codes "  status was pending: stored and cleared"
zero_words instruction = []

abbrev pub zero_text : Instruction → List ℕ
zero_text (TestPending mask address) = codes "  no request of these subclasses: " ++ names_text (codes ", ") subclasses (mask * 0x1000000)
zero_text instruction = zero_words instruction

-- code 1
abbrev pub one_words : Instruction → List ℕ
one_words Test = codes "  no status was pending: stored, nothing cleared"
one_words StoreReport = codes "  no report waits"
one_words instruction = []

-- an instruction that is not performed where status is pending or functions are in progress
abbrev pub tests_state : Instruction → Bool
tests_state Start = true
tests_state Resume = true
tests_state Halt = true
tests_state Cancel = true
tests_state Modify = true
tests_state instruction = false

abbrev pub other_one_text : Instruction → List ℕ
other_one_text (TestPending mask address) = stored_text address
other_one_text instruction = one_words instruction

abbrev pub one_text : Instruction → ℕ → List ℕ
one_text instruction control = if tests_state instruction then pending_text control else other_one_text instruction

-- code 2, with the first cause of several
abbrev pub two_words : Instruction → ℕ → List ℕ
two_words Start control = codes "  a start, halt or clear function is in progress ("
two_words Modify control = codes "  a start, halt or clear function is in progress ("
two_words Resume control = resume_cause control
two_words Halt control = codes "  a halt or clear function is in progress ("
two_words Cancel control = cancel_cause control
two_words ResetPath control = codes "  a reset of this path is asked for and not done"
two_words instruction control = []

abbrev pub two_text : Instruction → ℕ → List ℕ
two_text instruction control = if tests_state instruction then progress_text (two_words instruction control) control else two_words instruction control

-- code 3
abbrev pub three_words : Instruction → List ℕ
three_words Modify = codes "  not provided: there is no such subchannel"
three_words Store = codes "  not provided: there is no such subchannel"
three_words ResetPath = codes "  not operational: the channel path is not configured, or it is down"
three_words instruction = []

abbrev pub three_text : Instruction → Option Found → List ℕ
three_text Start found = not_operational_text found
three_text Resume found = not_operational_text found
three_text Halt found = not_operational_text found
three_text Clear found = not_operational_text found
three_text Cancel found = not_operational_text found
three_text Test found = not_operational_text found
three_text instruction found = three_words instruction

-- two blanks and what the code says, or nothing
abbrev pub code_words : Instruction → ConditionCode → Option Found → List ℕ
code_words instruction Zero found = zero_text instruction
code_words instruction One found = one_text instruction (control_of found)
code_words instruction Two found = two_text instruction (control_of found)
code_words instruction Three found = three_text instruction found
