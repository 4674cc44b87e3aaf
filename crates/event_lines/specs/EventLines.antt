-- The line of a script that asks for an event: its words, each behind one space, all numbers hexadecimal (own).
use Rattle.std.specs.Prelude.{ℕ, ◌/◌, ◌%◌, Bool, List, [], ◌∷◌, ◌++◌, codes, if◌then◌else◌}
use Rattle.std.specs.List.{flat_map}
use Rattle.chan_events.specs.Events.{Event}
use Rattle.chan_events.specs.declared.event.Event.TheVariants as event
use Rattle.chan_events.specs.declared.event.Instruction.{Instruction}
use Rattle.chan_events.specs.declared.event.Instruction.TheVariants.{Ssch, Tsch, Stsch, Msch, Rsch, Hsch, Csch, Xsch, Enable}
use Rattle.chan_events.specs.declared.event.OtherInstruction.{OtherInstruction}
use Rattle.chan_events.specs.declared.event.OtherInstruction.TheVariants.{Tpi, Rchp, Stcrw, Stcps}
use Rattle.chan_events.specs.declared.event.UnitAct.{UnitAct}
use Rattle.chan_events.specs.declared.event.UnitAct.TheVariants as act
use Rattle.chan_model.specs.Reports.{DeviceAnswer, Report}
use Rattle.chan_model.specs.declared.names.Side.{Side}
use Rattle.chan_model.specs.declared.names.Side.TheVariants.{First, Second}
use Rattle.chan_model.specs.declared.report.DeviceAnswer.TheVariants.{Begins, Absorbed, Supplied, Again, Ended}
use Rattle.script_text.specs.Text.{byte_text, hex_digit}
use Rattle.storage_keys.specs.Storage.{byte_of}

-- words behind one space each, and words parted by one space each
abbrev pub spaced : List (List ℕ) → List ℕ
spaced words = flat_map (λ word. 32 ∷ word) words

abbrev pub joined : List (List ℕ) → List ℕ
joined [] = []
joined (word ∷ words) = word ++ spaced words

-- a digit; the eight digits of a word, and the sixteen of a doubleword
abbrev pub digit_word : ℕ → List ℕ
digit_word n = hex_digit n ∷ []

abbrev pub eight_digits : ℕ → List ℕ
eight_digits n = hex_digit (n / 0x10000000 % 16) ∷ hex_digit (n / 0x1000000 % 16) ∷ hex_digit (n / 0x100000 % 16) ∷ hex_digit (n / 0x10000 % 16)
    ∷ hex_digit (n / 0x1000 % 16) ∷ hex_digit (n / 0x100 % 16) ∷ hex_digit (n / 0x10 % 16) ∷ hex_digit (n % 16) ∷ []

abbrev pub sixteen_digits : ℕ → List ℕ
sixteen_digits n = eight_digits (n / 0x100000000) ++ eight_digits (n % 0x100000000)

-- two digits for each byte, and a minus sign where there are none
abbrev pub bytes_word : List ℕ → List ℕ
bytes_word [] = codes "-"
bytes_word (byte ∷ bytes) = flat_map byte_text (byte ∷ bytes)

-- a side of a unit: the first is 0, the second 1
abbrev pub side_code : Side → ℕ
side_code First = 48
side_code Second = 49

abbrev pub side_word : Side → List ℕ
side_word side = side_code side ∷ []

abbrev pub flag_word : Bool → List ℕ
flag_word flag = (if flag then 49 else 48) ∷ []

-- what a CPU executes, behind its number
abbrev pub instruction_words : Instruction → List (List ℕ)
instruction_words (Ssch s a) = codes "ssch" ∷ eight_digits s ∷ eight_digits a ∷ []
instruction_words (Tsch s a) = codes "tsch" ∷ eight_digits s ∷ eight_digits a ∷ []
instruction_words (Stsch s a) = codes "stsch" ∷ eight_digits s ∷ eight_digits a ∷ []
instruction_words (Msch s a) = codes "msch" ∷ eight_digits s ∷ eight_digits a ∷ []
instruction_words (Rsch s) = codes "rsch" ∷ eight_digits s ∷ []
instruction_words (Hsch s) = codes "hsch" ∷ eight_digits s ∷ []
instruction_words (Csch s) = codes "csch" ∷ eight_digits s ∷ []
instruction_words (Xsch s) = codes "xsch" ∷ eight_digits s ∷ []
instruction_words (Enable s subclass multipath) = codes "enable" ∷ eight_digits s ∷ byte_text subclass ∷ flag_word multipath ∷ []

abbrev pub other_words : OtherInstruction → List (List ℕ)
other_words (Tpi mask a) = codes "tpi" ∷ byte_text mask ∷ eight_digits a ∷ []
other_words (Rchp path) = codes "rchp" ∷ eight_digits path ∷ []
other_words (Stcrw a) = codes "stcrw" ∷ eight_digits a ∷ []
other_words (Stcps a) = codes "stcps" ∷ eight_digits a ∷ []

-- what a unit does of itself
abbrev pub act_words : ℕ → UnitAct → List (List ℕ)
act_words u act.Leave = codes "leave" ∷ eight_digits u ∷ []
act_words u (act.Ask path) = codes "ask" ∷ eight_digits u ∷ eight_digits path ∷ []
act_words u (act.Attention path side) = codes "attn" ∷ eight_digits u ∷ eight_digits path ∷ side_word side ∷ []
act_words u (act.Notice path side) = codes "notice" ∷ eight_digits u ∷ eight_digits path ∷ side_word side ∷ []

-- what a device answered
abbrev pub answer_words : DeviceAnswer → List (List ℕ)
answer_words Begins = codes "begins" ∷ []
answer_words (Absorbed count) = codes "absorbed" ∷ eight_digits count ∷ []
answer_words (Supplied bytes) = codes "supplied" ∷ bytes_word bytes ∷ []
answer_words Again = codes "again" ∷ []
answer_words (Ended status Bool.false) = codes "ended" ∷ byte_text status.0 ∷ []
answer_words (Ended status Bool.true) = codes "ended" ∷ byte_text status.0 ∷ codes "more" ∷ []

-- where it belongs: the unit, the side, and the numbers of the program, of the command and of the chunk
abbrev pub place_words : Report → List (List ℕ)
place_words r = side_word r.side ∷ sixteen_digits r.number ∷ sixteen_digits r.command ∷ sixteen_digits r.sequence ∷ []

-- the words of the line
abbrev pub event_words : Event → List (List ℕ)
event_words (event.Put a bytes) = codes "put" ∷ eight_digits a ∷ bytes_word bytes ∷ []
event_words (event.SetKey a key) = codes "key" ∷ eight_digits a ∷ byte_text (byte_of key) ∷ []
event_words (event.SetPrefix cpu a) = codes "prefix" ∷ digit_word cpu ∷ eight_digits a ∷ []
event_words (event.Show a count) = codes "show" ∷ eight_digits a ∷ eight_digits count ∷ []
event_words (event.Execute cpu instruction) = codes "cpu" ∷ digit_word cpu ∷ instruction_words instruction
event_words (event.ExecuteOther cpu instruction) = codes "cpu" ∷ digit_word cpu ∷ other_words instruction
event_words (event.Choose s) = codes "choose" ∷ eight_digits s ∷ []
event_words (event.Up s path) = codes "up" ∷ eight_digits s ∷ eight_digits path ∷ []
event_words (event.Down s path) = codes "down" ∷ eight_digits s ∷ eight_digits path ∷ []
event_words (event.Report u r) = codes "report" ∷ eight_digits u ∷ place_words r ++ answer_words r.answer
event_words (event.Act u act) = act_words u act
event_words (event.Restart u) = codes "restart" ∷ eight_digits u ∷ []
event_words (event.PathDown chpid) = codes "pathdown" ∷ eight_digits chpid ∷ []
event_words (event.PathUp chpid) = codes "pathup" ∷ eight_digits chpid ∷ []
event_words (event.PathReset chpid) = codes "pathreset" ∷ eight_digits chpid ∷ []
event_words event.SystemReset = codes "sysreset" ∷ []

-- the line
abbrev pub event_text : Event → List ℕ
event_text e = joined (event_words e)
