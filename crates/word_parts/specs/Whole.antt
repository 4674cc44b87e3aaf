-- A table names each bit of its word: the names that are printed, and the numbers with them, give the word back.
use Rattle.std.specs.Prelude.{ℕ, ◌+◌, ◌*◌, ◌^◌, ◌<◌, ◌≡◌, ◌==◌, ◌&&◌, Bool, true, List, [], ◌∷◌, ◌++◌, codes, if◌then◌else◌}
use Rattle.std.specs.List.{list_all}
use Rattle.std.specs.Str.{bytes_eq}
use Rattle.zbits.specs.Bits.{weight}
use Rattle.zbits.specs.Layout.{at, covers_from}
use Rattle.zbits.specs.declared.layout.BitField.{BitField}
use Rattle.word_parts.specs.Parts.{Named, bits, is_shown, number_of}
use Rattle.word_parts.specs.CcwNames as ccw
use Rattle.word_parts.specs.declared.part.Shown.{Shown}
use Rattle.word_parts.specs.declared.part.Shown.TheVariants.{Flag, Format, NotZero}

-- a name that is printed, and the number that is told by what is printed
pub record Told : Type 0 where
  pub name : List ℕ
  pub number : ℕ

-- the name of a flag stands for one, and so does that of the format, but for format 0; else the number is printed
abbrev pub number_told : Shown → ℕ → ℕ
number_told Flag n = 1
number_told Format n = if n == 0 then 0 else 1
number_told shown n = n

abbrev pub told_of : Named → ℕ → Told
told_of p word = record { name = p.name; number = number_told p.shown (number_of p word) }

-- what is told by the parts that are shown
abbrev pub told : List Named → ℕ → List Told
told [] word = []
told (p ∷ ps) word = if is_shown p word then told_of p word ∷ told ps word else told ps word

-- the last bit of the part that has a name
abbrev pub last_of : List Named → List ℕ → ℕ
last_of [] name = 0
last_of (p ∷ ps) name = if bytes_eq p.name name then p.last else last_of ps name

-- each number at the bits of its name; what is not told is zero
abbrev pub word_back : List Named → List Told → ℕ
word_back table [] = 0
word_back table (x ∷ xs) = x.number * weight (last_of table x.name) + word_back table xs

-- a name alone says one bit
abbrev pub is_one_bit : Shown → ℕ → ℕ → Bool
is_one_bit Flag first last = first == last
is_one_bit Format first last = first == last
is_one_bit shown first last = true

-- a name leads to the bits of its part, and to no other part's
abbrev pub is_named : List Named → Named → Bool
is_named table p = (last_of table p.name == p.last) && is_one_bit p.shown p.first p.last

-- the bits of the parts, with what a word has there
abbrev pub fields_of : List Named → ℕ → List BitField
fields_of [] word = []
fields_of (p ∷ ps) word = at p.first p.last (number_of p word) ∷ fields_of ps word

-- the parts stand side by side from bit 0 to bit 31, and each has a name of its own
abbrev pub is_whole : List Named → Bool
is_whole table = covers_from 0 (fields_of table 0) && list_all (is_named table) table

-- what is printed of a word by a table gives the word back
abbrev pub GivesBack : List Named → Type 0
GivesBack table = (word : ℕ) → word < 2 ^ 32 → word_back table (told table word) ≡ word

-- the byte of flags of a channel-command word, at the left end of a word
abbrev pub flag_byte : List Named
flag_byte = ccw.flags ++ bits 8 31 (NotZero 1) (codes "other bits") ∷ []
