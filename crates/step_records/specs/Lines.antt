-- The lines of the text of a script.
use Rattle.std.specs.Prelude.{ℕ, ◌-◌, ◌==◌, nat_lt, not, List, [], length, take, drop, slice_index_or, if◌then◌else◌}
use Rattle.std.specs.List.{prefix_len}
use Rattle.step_records.specs.declared.script_lines.ScriptLines.{ScriptLines}

-- how many bytes stand before the first separator
abbrev pub bytes_before : ℕ → List ℕ → ℕ
bytes_before separator bytes = prefix_len (λ byte. not (byte == separator)) bytes

-- what stands before the first line feed from a byte on
abbrev pub line_from : List ℕ → ℕ → List ℕ
line_from text start =
    if nat_lt (length text) start then [] else
    take (bytes_before 10 (drop start text)) (drop start text)

-- the line of a number, from 1, without its line end; empty where there is none
unfoldable pub line_of : ScriptLines → ℕ → List ℕ
line_of lines number =
    if number == 0 then [] else
    if nat_lt (length lines.starts.items) number then [] else
    line_from lines.text.items (slice_index_or lines.starts.items (number - 1) 0)
