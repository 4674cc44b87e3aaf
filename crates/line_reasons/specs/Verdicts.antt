-- What a line says by itself, and which rule it breaks.
use Rattle.std.specs.Prelude.{◌≡◌, ℕ, Bool, true, false, not, ◌&&◌, ◌||◌, List, [], ◌∷◌, Option, Some, None, is_some, Result, Ok, Err, if◌then◌else◌}
use Rattle.channel_config.specs.declared.config.ConfigRule.{ConfigRule}
use Rattle.channel_config.specs.Setup.{Setup, no_setup}
use Rattle.script_rows.specs.declared.settings.Setting.{Setting}
use Rattle.script_rows.specs.declared.words.LineRule.{LineRule}
use Rattle.script_rows.specs.declared.words.LineRule.TheVariants.{SettingAfterAction, BreaksConfiguration, StorageNotFirst, MisplacedRace}
use Rattle.script_rows.specs.Settings.{configured}
use Rattle.script.specs.Pieces.{words_between_blanks}
use Rattle.script.specs.Parsing.{Parsed, Nothing, Sets, Does, Races, parsed, has_words, first_is_storage}
use Rattle.script.specs.Scripts.{Context, set_up}
use Rattle.line_reasons.specs.declared.verdict.Saying.{Saying}
use Rattle.line_reasons.specs.declared.verdict.Saying.TheVariants as saying
use Rattle.line_reasons.specs.declared.verdict.Broken.{Broken}
use Rattle.line_reasons.specs.declared.verdict.Broken.TheVariants as broken
use Rattle.line_reasons.specs.declared.verdict.Spoken.{Spoken}
use Rattle.line_reasons.specs.declared.checker.Checking.{Checking}
use Rattle.line_reasons.specs.declared.checker.Checking.TheVariants.{Text, Dialogue}

-- a line by itself, without what its action or its race is
abbrev pub saying_of : Result Parsed LineRule → Result Saying LineRule
saying_of (Ok Nothing) = Ok saying.Nothing
saying_of (Ok (Sets setting)) = Ok (saying.Sets setting)
saying_of (Ok (Does action)) = Ok saying.Acts
saying_of (Ok (Races race)) = Ok saying.Races
saying_of (Err rule) = Err rule

abbrev pub spoken_of : List ℕ → Spoken
spoken_of line = record { worded = has_words line; storage = first_is_storage (words_between_blanks line); said = saying_of (parsed line) }

-- the rule of lines that is broken, that of configurations where one is, and the line that acts where one does
abbrev pub line_rule_of : Broken → LineRule
line_rule_of (broken.ByItself rule) = rule
line_rule_of (broken.AfterAction acting) = SettingAfterAction
line_rule_of (broken.Configuration rule) = BreaksConfiguration
line_rule_of broken.NotStorage = StorageNotFirst
line_rule_of broken.Race = MisplacedRace

abbrev pub config_rule_in : Broken → Option ConfigRule
config_rule_in (broken.Configuration rule) = Some rule
config_rule_in it = None

abbrev pub acting_in : Broken → Option ℕ
acting_in (broken.AfterAction acting) = Some acting
acting_in it = None

-- what the lines so far have made: whether some had words, which of them acts first, and the set-up; and what a bad line counts for
pub record Checked : Type 0 where
  pub checking : Checking
  pub begun : Bool
  pub first_action : Option ℕ
  pub setup : Setup

abbrev pub unchecked : Checking → Checked
unchecked checking = record { checking = checking; begun = false; first_action = None; setup = no_setup }

-- the same as the definition of a script has it
abbrev pub context : Checked → Context
context c = record { begun = c.begun; acted = is_some c.first_action; setup = c.setup }

-- what refuses a setting: after an action it is too late, whatever it sets up
abbrev pub late_or : Option ℕ → Option Broken → Option Broken
late_or (Some acting) refused = Some (broken.AfterAction acting)
late_or None refused = refused

abbrev pub refusal : Result Setup ConfigRule → Option Broken
refusal (Ok setup) = None
refusal (Err rule) = Some (broken.Configuration rule)

abbrev pub saying_breaks : Checked → Result Saying LineRule → Option Broken
saying_breaks c (Err rule) = Some (broken.ByItself rule)
saying_breaks c (Ok saying.Nothing) = None
saying_breaks c (Ok (saying.Sets setting)) = late_or c.first_action (refusal (configured c.setup setting))
saying_breaks c (Ok saying.Acts) = None
saying_breaks c (Ok saying.Races) = Some broken.Race

-- what a line breaks after these lines, where no race may be in it
abbrev pub breaks : Checked → Spoken → Option Broken
breaks c spoken = if spoken.worded && (not c.begun && not spoken.storage) then Some broken.NotStorage else saying_breaks c spoken.said

-- the first line that acts
abbrev pub earlier : Option ℕ → ℕ → Option ℕ
earlier None number = Some number
earlier (Some acting) number = Some acting

abbrev pub acting_first : Option ℕ → ℕ → Result Saying LineRule → Option ℕ
acting_first first number (Ok saying.Acts) = earlier first number
acting_first first number (Ok saying.Races) = earlier first number
acting_first first number said = first

abbrev pub settings_in : Result Saying LineRule → List Setting
settings_in (Ok (saying.Sets setting)) = setting ∷ []
settings_in said = []

-- a setting counts
abbrev pub with_setting : Checked → Setting → Checked
with_setting c setting = record c { setup = set_up c.setup (setting ∷ []) }

-- what of a line that can be read is bad before it counts
abbrev pub too_late : Result Saying LineRule → Option ℕ → Option Broken
too_late (Ok (saying.Sets setting)) None = None
too_late (Ok (saying.Sets setting)) (Some acting) = Some (broken.AfterAction acting)
too_late (Ok saying.Races) first = Some broken.Race
too_late (Ok saying.Nothing) first = None
too_late (Ok saying.Acts) first = None
too_late (Err rule) first = None

-- a line counts, bad or not
abbrev pub taken : Checked → ℕ → Result Saying LineRule → Checked
taken c number said = record c { first_action = acting_first c.first_action number said; setup = set_up c.setup (settings_in said) }

abbrev pub counted : Checked → ℕ → Spoken → Checked
counted c number spoken = record (taken c number spoken.said) { begun = c.begun || spoken.worded }

-- in a text each line counts, in a dialogue each but a bad one
abbrev pub after_spoken : Checked → Checking → ℕ → Spoken → Checked
after_spoken c Text number spoken = counted c number spoken
after_spoken c Dialogue number spoken = if is_some (breaks c spoken) then c else counted c number spoken

abbrev pub after : Checked → ℕ → List ℕ → Checked
after c number line = after_spoken c c.checking number (spoken_of line)
