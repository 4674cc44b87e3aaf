-- What stands after the first lines of a script, as the code keeps it.
use Rattle.std.specs.Prelude.{◌≡◌, ℕ, Bool, ◌||◌, List, ◌++◌, take, Result}
use Rattle.std.specs.List.{list_any, flat_map}
use Rattle.channel_config.specs.Setup.{no_setup}
use Rattle.script.specs.declared.draft.ScriptBuilder.{ScriptBuilder}
use Rattle.script_rows.specs.declared.words.LineRule.{LineRule}
use Rattle.script.specs.Parsing.{Parsed, parsed, has_words}
use Rattle.script.specs.Scripts.{Context, setting_of, action_of, race_of, is_action, set_up, actions_from, latest, race_from, AreClean}

abbrev pub context : ScriptBuilder → Context
context d = record { begun = d.begun; acted = d.acted; setup = d.config }

-- one line more, which says this
pub record TakesLine (old : ScriptBuilder) (number : ℕ) (what : Result Parsed LineRule) (new : ScriptBuilder) : Type 0 where
  pub begun : new.begun ≡ old.begun
  pub acted : new.acted ≡ (old.acted || is_action what)
  pub setup : new.config ≡ set_up old.config (setting_of what)
  pub lines : new.lines ≡ old.lines ++ action_of number what
  pub race : new.race ≡ latest old.race (race_of number what)

pub record IsNext (old : ScriptBuilder) (number : ℕ) (line : List ℕ) (new : ScriptBuilder) : Type 0 where
  pub begun : new.begun ≡ (old.begun || has_words line)
  pub acted : new.acted ≡ (old.acted || is_action (parsed line))
  pub setup : new.config ≡ set_up old.config (setting_of (parsed line))
  pub lines : new.lines ≡ old.lines ++ action_of number (parsed line)
  pub race : new.race ≡ latest old.race (race_of number (parsed line))

-- the first i of the lines of a text, all clean, made this
pub record IsDraftOf (races : Bool) (text : List (List ℕ)) (i : ℕ) (d : ScriptBuilder) : Type 0 where
  pub clean : AreClean races text i
  pub begun : d.begun ≡ list_any has_words (take i text)
  pub acted : d.acted ≡ list_any (λ line. is_action (parsed line)) (take i text)
  pub setup : d.config ≡ set_up no_setup (flat_map (λ line. setting_of (parsed line)) (take i text))
  pub lines : d.lines ≡ actions_from 1 (take i text)
  pub race : d.race ≡ race_from 1 (take i text)
