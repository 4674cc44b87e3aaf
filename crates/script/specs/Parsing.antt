-- What one line says, by itself (own).
use Rattle.std.specs.Prelude.{ℕ, ◌==◌, Bool, false, not, ◌||◌, nat_lt, List, [], ◌∷◌, length, Option, Some, None, Result, Ok, Err, codes, if◌then◌else◌}
use Rattle.std.specs.List.{list_all}
use Rattle.std.specs.Str.{is_utf8, bytes_eq}
use Rattle.script_rows.specs.declared.settings.Setting.{Setting}
use Rattle.script_rows.specs.declared.Action.{Action}
use Rattle.script_rows.specs.declared.race.Race.{Race}
use Rattle.script_rows.specs.declared.words.LineRule.{LineRule}
use Rattle.script_rows.specs.declared.words.LineRule.TheVariants.{UnknownWord, BadWord}
use Rattle.script.specs.Pieces.{words_between_blanks}
use Rattle.script_rows.specs.Settings.{setting_row}
use Rattle.script_rows.specs.Actions.{action_row}
use Rattle.script_rows.specs.Races.{race_row}

-- what one line says
pub data Parsed : Type 0 where
  Nothing : Parsed
  Sets : (setting : Setting) → Parsed
  Does : (asked : Action) → Parsed
  Races : (race : Race) → Parsed

-- the first word may be unknown
abbrev pub parsed_action : Option (Result Action LineRule) → Result Parsed LineRule
parsed_action None = Err UnknownWord
parsed_action (Some (Ok action)) = Ok (Does action)
parsed_action (Some (Err rule)) = Err rule

abbrev pub parsed_race : Result Race LineRule → Result Parsed LineRule
parsed_race (Ok race) = Ok (Races race)
parsed_race (Err rule) = Err rule

-- a line that drives a machine
abbrev pub parsed_drive : List ℕ → List (List ℕ) → Result Parsed LineRule
parsed_drive w ws = if bytes_eq w (codes "race") then parsed_race (race_row ws) else parsed_action (action_row w ws)

abbrev pub parsed_setting : Option (Result Setting LineRule) → Result Parsed LineRule → Result Parsed LineRule
parsed_setting None other = other
parsed_setting (Some (Ok setting)) other = Ok (Sets setting)
parsed_setting (Some (Err rule)) other = Err rule

abbrev pub parsed_words : List (List ℕ) → Result Parsed LineRule
parsed_words [] = Err UnknownWord
parsed_words (w ∷ ws) = parsed_setting (setting_row w ws) (parsed_drive w ws)

-- a line that is neither empty nor a comment
abbrev pub has_words : List ℕ → Bool
has_words [] = false
has_words (b ∷ bs) = not (b == 35)

-- all bytes are of ASCII
abbrev pub is_ascii : List ℕ → Bool
is_ascii bytes = list_all (λ b. nat_lt b 128) bytes

-- what a line says by itself, or the first rule that it breaks by itself; a line of more than 1,024 bytes, or not of UTF-8, is a
-- bad word
abbrev pub parsed : List ℕ → Result Parsed LineRule
parsed line = if nat_lt 1024 (length line) || not (is_utf8 line) then Err BadWord
    else (if has_words line then parsed_words (words_between_blanks line) else Ok Nothing)

-- the first word is `storage`
abbrev pub first_is_storage : List (List ℕ) → Bool
first_is_storage [] = false
first_is_storage (w ∷ ws) = bytes_eq w (codes "storage")
