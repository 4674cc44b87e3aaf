-- The row of the line that races CPUs (own).
use Rattle.std.specs.Prelude.{ℕ, List, Option, Some, None, Result, codes, if◌then◌else◌}
use Rattle.std.specs.Str.{bytes_eq}
use Rattle.script_rows.specs.declared.race.Race.{Race}
use Rattle.script_rows.specs.declared.words.LineRule.{LineRule}
use Rattle.script_rows.specs.Words.{and_then, subchannel, times_up_to, four_of, says_of}

-- the instruction that each CPU executes is TEST SUBCHANNEL
abbrev pub tested : List ℕ → List ℕ → Option ℕ
tested name word = if bytes_eq name (codes "tsch") then subchannel word else None

-- `race CPUS TIMES tsch SUBCHANNEL`
abbrev pub race_row : List (List ℕ) → Result Race LineRule
race_row words = says_of (four_of words)
    (λ w. and_then (times_up_to 16 w.0) (λ cpus. and_then (times_up_to 10000 w.1) (λ times. and_then (tested w.2 w.3) (λ s. Some (record { cpus = cpus; times = times; subchannel = s })))))
