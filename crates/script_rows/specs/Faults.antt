-- How an error of the code stands for what is said of a line; nothing is said of want of memory.
use Rattle.std.specs.Prelude.{◌≡◌, ℕ, Option, Some, None, Result, Ok, Err}
use Rattle.script_rows.specs.declared.settings.Setting.{Setting}
use Rattle.script_rows.specs.declared.words.LineFault.{LineFault}
use Rattle.script_rows.specs.declared.words.LineFault.TheVariants.{NoMemory, Rule}
use Rattle.script_rows.specs.declared.words.LineRule.{LineRule}
use Rattle.script_rows.specs.declared.words.LineRule.TheVariants.{UnknownWord, WrongCount, BadWord, SettingAfterAction, BreaksConfiguration, StorageNotFirst, MisplacedRace}

-- the rule that a fault names is the one that is broken
abbrev pub FaultOf : {A : Type 0} → LineFault → Result A LineRule → Type 0
FaultOf NoMemory said = Unit {0}
FaultOf (Rule rule) said = said ≡ Err rule

-- what rows say of a setting, where one of them has the first word
abbrev pub Says : Result (Option Setting) LineFault → Option (Result Setting LineRule) → Type 0
Says (Ok None) said = said ≡ None
Says (Ok (Some setting)) said = said ≡ Some (Ok setting)
Says (Err NoMemory) said = Unit {0}
Says (Err (Rule rule)) said = said ≡ Some (Err rule)

-- the number by which a rule is printed
abbrev pub rule_number : LineRule → ℕ
rule_number UnknownWord = 1
rule_number WrongCount = 2
rule_number BadWord = 3
rule_number SettingAfterAction = 4
rule_number BreaksConfiguration = 5
rule_number StorageNotFirst = 6
rule_number MisplacedRace = 7
