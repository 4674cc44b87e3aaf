-- What a script is, and where it is bad (own).
use Rattle.std.specs.Prelude.{◌≡◌, ℕ, ◌+◌, ◌<◌, Bool, true, false, not, ◌&&◌, List, [], ◌∷◌, ◌++◌, length, take, drop, slice_index_or, Option, Some, None, Result, Ok, Err, ◌⊎◌, if◌then◌else◌}
use Rattle.std.specs.List.{list_any, flat_map}
use Rattle.channel_config.specs.declared.config.ConfigRule.{ConfigRule}
use Rattle.channel_config.specs.Setup.{Setup, no_setup}
use Rattle.script_rows.specs.declared.settings.Setting.{Setting}
use Rattle.script_rows.specs.declared.words.LineRule.{LineRule}
use Rattle.script_rows.specs.declared.words.LineRule.TheVariants.{SettingAfterAction, BreaksConfiguration, StorageNotFirst, MisplacedRace}
use Rattle.script.specs.declared.Line.{Line}
use Rattle.script.specs.declared.RaceLine.{RaceLine}
use Rattle.script.specs.Pieces.{words_between_blanks}
use Rattle.script_rows.specs.Settings.{configured}
use Rattle.script.specs.Parsing.{Parsed, Nothing, Sets, Does, Races, has_words, parsed, first_is_storage}

-- the settings of a line, none or one
abbrev pub setting_of : Result Parsed LineRule → List Setting
setting_of (Ok Nothing) = []
setting_of (Ok (Sets setting)) = setting ∷ []
setting_of (Ok (Does action)) = []
setting_of (Ok (Races race)) = []
setting_of (Err rule) = []

-- the actions of a line, none or one, under its number
abbrev pub action_of : ℕ → Result Parsed LineRule → List Line
action_of n (Ok Nothing) = []
action_of n (Ok (Sets setting)) = []
action_of n (Ok (Does action)) = record { number = n; action = action } ∷ []
action_of n (Ok (Races race)) = []
action_of n (Err rule) = []

-- the race of a line, under its number
abbrev pub race_of : ℕ → Result Parsed LineRule → Option RaceLine
race_of n (Ok Nothing) = None
race_of n (Ok (Sets setting)) = None
race_of n (Ok (Does action)) = None
race_of n (Ok (Races race)) = Some (record { number = n; race = race })
race_of n (Err rule) = None

-- a line that drives the machine
abbrev pub is_action : Result Parsed LineRule → Bool
is_action (Ok Nothing) = false
is_action (Ok (Sets setting)) = false
is_action (Ok (Does action)) = true
is_action (Ok (Races race)) = true
is_action (Err rule) = false

-- the set-up as these settings make it one by one
abbrev pub setup_kept : Setup → Result Setup ConfigRule → Setup
setup_kept old (Ok new) = new
setup_kept old (Err rule) = old

abbrev pub set_up : Setup → List Setting → Setup
set_up s [] = s
set_up s (x ∷ xs) = set_up (setup_kept s (configured s x)) xs

-- the actions of the lines, the first of which has the number n
abbrev pub actions_from : ℕ → List (List ℕ) → List Line
actions_from n [] = []
actions_from n (line ∷ lines) = action_of n (parsed line) ++ actions_from (n + 1) lines

-- the race of the lines, the first of which has the number n; a later one counts, where there were several
abbrev pub latest : Option RaceLine → Option RaceLine → Option RaceLine
latest earlier None = earlier
latest earlier (Some race) = Some race

abbrev pub race_from : ℕ → List (List ℕ) → Option RaceLine
race_from n [] = None
race_from n (line ∷ lines) = latest (race_of n (parsed line)) (race_from (n + 1) lines)

-- what the lines before a line decide about it: whether some had words, whether some drove the machine, and the set-up
pub record Context : Type 0 where
  pub begun : Bool
  pub acted : Bool
  pub setup : Setup

abbrev pub context_of : List (List ℕ) → Context
context_of before = record {
  begun = list_any has_words before;
  acted = list_any (λ line. is_action (parsed line)) before;
  setup = set_up no_setup (flat_map (λ line. setting_of (parsed line)) before);
}

-- whichever rule of configurations is broken
abbrev pub refused_setting : Result Setup ConfigRule → Option LineRule
refused_setting (Ok s) = None
refused_setting (Err rule) = Some BreaksConfiguration

-- a race where none may be
abbrev pub refused_race : Bool → Option LineRule
refused_race true = None
refused_race false = Some MisplacedRace

-- a race may be where the command lets it, in the last line that has words
abbrev pub may_race : Bool → List (List ℕ) → Bool
may_race races later = races && not (list_any has_words later)

abbrev pub broken_by : Context → Bool → Result Parsed LineRule → Option LineRule
broken_by c may (Err rule) = Some rule
broken_by c may (Ok Nothing) = None
broken_by c may (Ok (Sets setting)) = if c.acted then Some SettingAfterAction else refused_setting (configured c.setup setting)
broken_by c may (Ok (Does action)) = None
broken_by c may (Ok (Races race)) = refused_race may

-- the first rule that a line breaks after these lines; that the first line with words is no `storage` line comes before all others
abbrev pub fault : Context → Bool → List ℕ → Option LineRule
fault c may line = if has_words line && (not c.begun && not (first_is_storage (words_between_blanks line))) then Some StorageNotFirst else broken_by c may (parsed line)

-- the same of the line with n lines before it
abbrev pub fault_at : Bool → List (List ℕ) → ℕ → Option LineRule
fault_at races lines n = fault (context_of (take n lines)) (may_race races (drop (n + 1) lines)) (slice_index_or lines n [])

-- the first n lines break no rule
abbrev pub AreClean : Bool → List (List ℕ) → ℕ → Type 0
AreClean races lines n = (k : ℕ) → k < n → fault_at races lines k ≡ None

-- a script as it is read
pub record ScriptContents : Type 0 where
  pub setup : Setup
  pub lines : List Line
  pub race : Option RaceLine

-- the script that lines are; `races` says that the command lets the last line race
pub record IsScript (races : Bool) (text : List (List ℕ)) (s : ScriptContents) : Type 0 where
  -- no line breaks a rule
  pub clean : AreClean races text (length text)
  -- some line has words, so `storage` comes first
  pub begun : list_any has_words text ≡ true
  -- the settings in order make the set-up, and the actions stand in order under the numbers of their lines
  pub setup : s.setup ≡ set_up no_setup (flat_map (λ line. setting_of (parsed line)) text)
  pub lines : s.lines ≡ actions_from 1 text
  -- the race, where there is one, stands in the last line
  pub race : s.race ≡ race_from 1 text

-- the line (from 1) is the first that breaks a rule, and the rule the first that it breaks
pub record IsFirstBad (races : Bool) (text : List (List ℕ)) (line : ℕ) (rule : LineRule) : Type 0 where
  pub before : ℕ
  pub number : line ≡ before + 1
  pub within : before < length text
  pub clean : AreClean races text before
  pub broken : fault_at races text before ≡ Some rule

-- where no line has words, line 1 is no `storage` line
abbrev pub IsBad : Bool → List (List ℕ) → ℕ → LineRule → Type 0
IsBad races text line rule =
    ((list_any has_words text ≡ true) × IsFirstBad races text line rule)
    ⊎ ((list_any has_words text ≡ false) × (line ≡ 1) × (rule ≡ StorageNotFirst))
