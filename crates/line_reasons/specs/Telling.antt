-- The bad lines of a text.
use Rattle.std.specs.Prelude.{◌≡◌, ℕ, zero, suc, ◌+◌, ◌==◌, Bool, true, false, not, ◌&&◌, ◌||◌, List, [], ◌∷◌, ◌++◌, length, Option, Some, None, option_map, IfSome, if◌then◌else◌}
use Rattle.std.specs.List.{list_any}
use Rattle.script_rows.specs.declared.words.LineRule.{LineRule}
use Rattle.script_rows.specs.declared.words.LineRule.TheVariants.{StorageNotFirst}
use Rattle.script.specs.Parsing.{has_words}
use Rattle.script.specs.Scripts.{fault, fault_at}
use Rattle.line_faults.specs.declared.reason.BadLine.{BadLine}
use Rattle.line_faults.specs.Reasons.{rule_of}
use Rattle.line_reasons.specs.Verdicts.{Checked, context}

-- a bad line, from 1, and the first rule that it breaks
pub record Told : Type 0 where
  pub line : ℕ
  pub rule : LineRule

abbrev pub told_as : BadLine → Told
told_as bad = record { line = bad.number; rule = rule_of bad.reason }

abbrev pub told_list : Option BadLine → List Told
told_list None = []
told_list (Some bad) = told_as bad ∷ []

-- the rule that is told, where one is
abbrev pub rule_in : Option BadLine → Option LineRule
rule_in told = option_map (λ bad. rule_of bad.reason) told

abbrev pub AreNumbered : ℕ → Option BadLine → Type 0
AreNumbered number told = IfSome told (λ bad. bad.number ≡ number)

-- where no line has words, the first is no `storage` line
abbrev pub or_wordless : Bool → ℕ → Option LineRule → Option LineRule
or_wordless some_words number rule = if some_words || not (number == 1) then rule else Some StorageNotFirst

-- the rule that is told of the next line
abbrev pub told_next : Bool → Checked → ℕ → List ℕ → Option LineRule
told_next some_words c number line = or_wordless some_words number (fault (context c) false line)

-- the rule that the line with n lines before it breaks, where no line may race
abbrev pub told_at : List (List ℕ) → ℕ → Option LineRule
told_at lines n = or_wordless (list_any has_words lines) (n + 1) (fault_at false lines n)

abbrev pub told_of : ℕ → Option LineRule → List Told
told_of number None = []
told_of number (Some rule) = record { line = number; rule = rule } ∷ []

-- of the first n lines
abbrev pub told_until : List (List ℕ) → ℕ → List Told
told_until lines zero = []
told_until lines (suc n) = told_until lines n ++ told_of (n + 1) (told_at lines n)

-- of all
abbrev pub told : List (List ℕ) → List Told
told lines = told_until lines (length lines)

abbrev pub first_told : List Told → Option Told
first_told [] = None
first_told (bad ∷ others) = Some bad
