-- The first line of a text, and those that follow it.
use Rattle.std.specs.Prelude.{◌≡◌, ◌≢◌, ◌<◌, ◌≤◌, ℕ, List, length, drop, slice_index_or}
use Rattle.script.specs.Pieces.{lines_of}

-- a line, and the lines that follow it
pub record LineSeen : Type 0 where
  pub line : List ℕ
  pub later : List (List ℕ)

-- the lines of a text but the first
abbrev pub later_lines : List ℕ → List (List ℕ)
later_lines text = drop 1 (lines_of text)

-- the first line of a text has so many bytes
pub record IsFirst (text : List ℕ) (count : ℕ) : Type 0 where
  pub within : count ≤ length text
  pub before : (k : ℕ) → k < count → slice_index_or text k 0 ≢ 10
  pub ended : count < length text → slice_index_or text count 0 ≡ 10
