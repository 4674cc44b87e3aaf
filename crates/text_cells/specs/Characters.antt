-- Characters of a text in UTF-8, and what a row of cells puts.
use Rattle.std.specs.Prelude.{◌+◌, ◌-◌, ◌/◌, ◌==◌, ℕ, zero, suc, Bool, not, ◌&&◌, List, [], ◌∷◌, ◌++◌, length, take, if◌then◌else◌}
use Rattle.std.specs.List.{count_by, suffix_len}

-- a byte that begins a character: the bytes that go on with one are 80 to BF
abbrev pub begins : ℕ → Bool
begins byte = not (byte / 0x40 == 2)

-- how many characters a text has
abbrev pub characters : List ℕ → ℕ
characters bytes = count_by begins bytes

-- a byte that goes on with a character
abbrev pub goes_on : ℕ → Bool
goes_on byte = not (begins byte)

-- where the last character of a text begins; 0 where none does
abbrev pub last_begin : List ℕ → ℕ
last_begin text = length text - (suffix_len goes_on text + 1)

-- a text without its last character
abbrev pub without_last : List ℕ → List ℕ
without_last text = take (last_begin text) text

-- a text so many times, one after the other
unfoldable pub repeated : ℕ → List ℕ → List ℕ
repeated zero text = []
repeated (suc times) text = repeated times text ++ text

-- more was put into a cell than it holds, and of the text that it has the last character is left out
abbrev pub is_cut : Bool → List ℕ → Bool
is_cut failed text = failed && not (characters text == 0)

-- what is shown of a cell: where it was cut, a mark stands for the last of its characters
abbrev pub shown : Bool → List ℕ → List ℕ → List ℕ
shown failed text mark = if is_cut failed text then without_last text ++ mark else text

-- what goes in where so many blanks wait before a text: nothing with an empty text
abbrev pub after_blanks : ℕ → List ℕ → List ℕ
after_blanks blanks [] = []
after_blanks blanks (byte ∷ rest) = repeated blanks (32 ∷ []) ++ byte ∷ rest

-- how many blanks wait then
abbrev pub still_waiting : ℕ → List ℕ → ℕ
still_waiting blanks [] = blanks
still_waiting blanks (byte ∷ rest) = 0
