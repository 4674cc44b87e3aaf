-- How an error of the code stands for what is said of the text; nothing is said of want of memory.
use Rattle.std.specs.Prelude.{◌≡◌, ℕ, Bool, List, Option, Some}
use Rattle.script_rows.specs.declared.words.LineFault.{LineFault}
use Rattle.script_rows.specs.declared.words.LineFault.TheVariants.{NoMemory, Rule}
use Rattle.script_rows.specs.declared.words.LineRule.{LineRule}
use Rattle.script.specs.declared.ScriptBad.{ScriptBad}
use Rattle.script.specs.declared.ScriptBad.TheVariants as bad
use Rattle.script.specs.Scripts.{IsBad, IsFirstBad}

abbrev pub BreaksRule : LineFault → Option LineRule → Type 0
BreaksRule NoMemory broken = Unit {0}
BreaksRule (Rule rule) broken = broken ≡ Some rule

-- what is bad in the line of this number
abbrev pub bad_by : ℕ → LineFault → ScriptBad
bad_by number NoMemory = bad.NoMemory
bad_by number (Rule rule) = bad.Bad number rule

abbrev pub BadIn : ScriptBad → Bool → List (List ℕ) → Type 0
BadIn bad.NoMemory races lines = Unit {0}
BadIn (bad.Bad line rule) races lines = IsFirstBad races lines line rule

abbrev pub BadAt : ScriptBad → Bool → List (List ℕ) → Type 0
BadAt bad.NoMemory races text = Unit {0}
BadAt (bad.Bad line rule) races text = IsBad races text line rule
