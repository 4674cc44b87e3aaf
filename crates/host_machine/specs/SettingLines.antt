-- A line of a script that configures a machine, for a host (own).
use Rattle.std.specs.Prelude.{◌≡◌, ◌⊎◌, ℕ, ℤ, List, [], ◌∷◌, Option, Some, None, Result, Ok, Err}
use Rattle.channel_config.specs.Setup.{Setup}
use Rattle.script_rows.specs.Settings.{configured, setting_row}
use Rattle.script_rows.specs.declared.settings.Setting.{Setting}
use Rattle.script_rows.specs.declared.words.LineRule.{LineRule}
use Rattle.script_rows.specs.declared.words.LineRule.TheVariants.{UnknownWord}
use Rattle.event_lines.specs.ReadLines.{words_of}
use Rattle.host_machine.specs.Answers.{at_other_stage, below, no_memory}
use Rattle.host_machine.specs.Hosts.{SetsUpBy, Stays}
use Rattle.host_machine.specs.Lines.{line_size}
use Rattle.host_machine.specs.declared.host_machine.HostMachine.{HostMachine}
use Rattle.host_machine.specs.declared.host_machine.HostMachine.TheVariants.{SettingUp, Runs}

-- what a row says of the set-up is taken, or is refused by a rule of lines or of configurations
abbrev pub TakesRow : Option (Result Setting LineRule) → Setup → ℤ → Setup → Type 0
TakesRow None old number new = Stays old new number (below (line_size UnknownWord))
TakesRow (Some (Err broken)) old number new = Stays old new number (below (line_size broken))
TakesRow (Some (Ok setting)) old number new = SetsUpBy old (configured old setting) number new

abbrev pub row_of_words : List (List ℕ) → Option (Result Setting LineRule)
row_of_words [] = None
row_of_words (word ∷ words) = setting_row word words

-- or there was no memory, and nothing is done
abbrev pub TakesWords : List (List ℕ) → Setup → ℤ → Setup → Type 0
TakesWords words old number new = TakesRow (row_of_words words) old number new ⊎ Stays old new number (below no_memory)

abbrev pub TakesLine : List ℕ → Setup → ℤ → Setup → Type 0
TakesLine line old number new = TakesWords (words_of line) old number new

abbrev pub SetsUpLine : List ℕ → HostMachine → ℤ → HostMachine → Type 0
SetsUpLine line (SettingUp old) number (SettingUp new) = TakesLine line old number new
SetsUpLine line (SettingUp old) number (Runs running) = ⊥
SetsUpLine line (Runs running) number new = Stays (Runs running) new number (below at_other_stage)
