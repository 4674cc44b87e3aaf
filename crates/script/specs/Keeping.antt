-- Packed lines over one arena of bytes, and the lines that they are.
use Rattle.std.specs.Prelude.{ℕ, ◌+◌, ◌≤◌, List, All, length, take, drop, map}
use Rattle.script_rows.specs.Slots.{action_in, action_length}
use Rattle.script.specs.declared.Line.{Line}
use Rattle.script.specs.declared.kept.KeptLine.{KeptLine}

-- the line with the first of these bytes
abbrev pub line_in : KeptLine → List ℕ → Line
line_in kept bytes = record { number = kept.number; action = action_in kept.action bytes }

-- the line whose bytes stand from its start on
abbrev pub line_at : List ℕ → KeptLine → Line
line_at arena kept = line_in kept (take (action_length kept.action) (drop kept.start arena))

abbrev pub lines_at : List ℕ → List KeptLine → List Line
lines_at arena kept = map (line_at arena) kept

-- its bytes are all there
abbrev pub Fits : ℕ → KeptLine → Type 0
Fits size kept = kept.start + action_length kept.action ≤ size

abbrev pub AllFit : List ℕ → List KeptLine → Type 0
AllFit arena kept = All (Fits (length arena)) kept
