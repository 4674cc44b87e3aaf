-- The words of a line of a script.
use Rattle.std.specs.Prelude.{ℕ, ◌+◌, nat_lt, Bool, List, [], codes, length, take, drop, if◌then◌else◌}
use Rattle.std.specs.Str.{bytes_eq}
use Rattle.step_records.specs.Lines.{bytes_before}

-- what stands before the first blank
abbrev pub first_word : List ℕ → List ℕ
first_word line = take (bytes_before 32 line) line

-- what stands behind the first blank
abbrev pub other_words : List ℕ → List ℕ
other_words line = if nat_lt (bytes_before 32 line) (length line) then drop (bytes_before 32 line + 1) line else []

abbrev pub begins : List ℕ → List ℕ → Bool
begins line word = bytes_eq (first_word line) word

-- a line without the CPU that it names
abbrev pub without_cpu : List ℕ → List ℕ
without_cpu line = if begins line (codes "cpu") then other_words (other_words line) else line
