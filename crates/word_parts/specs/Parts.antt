-- A word as a table of its parts, each with its name, and what is printed of it.
use Rattle.std.specs.Prelude.{ℕ, ◌%◌, ◌==◌, not, Bool, true, false, List, [], ◌∷◌, ◌++◌, codes, if◌then◌else◌}
use Rattle.std.specs.List.{flat_map, list_any}
use Rattle.zbits.specs.Bits.{field_of}
use Rattle.word_parts.specs.declared.part.Part.{Part}
use Rattle.word_parts.specs.declared.part.Shown.{Shown}
use Rattle.word_parts.specs.declared.part.Shown.TheVariants.{Flag, Format, NotZero, Always, Paths, Source, Recovery}
use Rattle.word_parts.specs.Meanings.{source_name, recovery_name}
use Rattle.word_parts.specs.Numbers.{hex_text}
use Rattle.word_parts.specs.Paths.{paths_text}

-- the bits first to last, how their number is printed, and their name
pub record Named : Type 0 where
  pub first : ℕ
  pub last : ℕ
  pub shown : Shown
  pub name : List ℕ

abbrev pub part_of : Part → Named
part_of p = record { first = p.first; last = p.last; shown = p.shown; name = p.name.now }

abbrev pub bits : ℕ → ℕ → Shown → List ℕ → Named
bits first last shown name = record { first = first; last = last; shown = shown; name = name }

abbrev pub flag : ℕ → List ℕ → Named
flag bit name = bits bit bit Flag name

abbrev pub number_of : Named → ℕ → ℕ
number_of p word = field_of word p.first p.last

-- a flag and some numbers are left out where they are zero
abbrev pub shows : Shown → ℕ → Bool
shows Flag n = not (n == 0)
shows (NotZero digits) n = not (n == 0)
shows shown n = true

abbrev pub is_shown : Named → ℕ → Bool
is_shown p word = shows p.shown (number_of p word)

abbrev pub format_text : List ℕ → ℕ → List ℕ
format_text name n = if n == 0 then codes "format 0" else name

abbrev pub number_text : List ℕ → ℕ → ℕ → List ℕ
number_text name digits n = name ++ (codes " " ++ hex_text digits n)

abbrev pub mask_text : List ℕ → ℕ → List ℕ
mask_text name n = number_text name 2 n ++ (codes ": " ++ paths_text (n % 0x100) [])

abbrev pub text_by : Shown → List ℕ → ℕ → List ℕ
text_by Flag name n = name
text_by Format name n = format_text name n
text_by (NotZero digits) name n = number_text name digits n
text_by (Always digits) name n = number_text name digits n
text_by Paths name n = mask_text name n
text_by Source name n = number_text name 1 n ++ source_name n
text_by Recovery name n = number_text name 2 n ++ recovery_name n

-- what is printed of a part that has this number
abbrev pub item_text : Named → ℕ → List ℕ
item_text p n = text_by p.shown p.name n

-- the text of a part, where it is shown
abbrev pub part_texts : Named → ℕ → List (List ℕ)
part_texts p word = if is_shown p word then item_text p (number_of p word) ∷ [] else []

-- the texts of the parts that are shown
abbrev pub texts_of : List Named → ℕ → List (List ℕ)
texts_of parts word = flat_map (λ p. part_texts p word) parts

-- a text after others, or the first
abbrev pub after : Bool → List ℕ → List ℕ → List ℕ
after true separator text = separator ++ text
after false separator text = text

-- texts parted by a separator, which stands before the first too where the list is begun
abbrev pub listed : Bool → List ℕ → List (List ℕ) → List ℕ
listed begun separator [] = []
listed begun separator (text ∷ texts) = after begun separator text ++ listed true separator texts

abbrev pub begun_after : Bool → List (List ℕ) → Bool
begun_after begun [] = begun
begun_after begun (text ∷ texts) = true

-- the parts that are shown, or `none`
abbrev pub names_text : List ℕ → List Named → ℕ → List ℕ
names_text separator parts word =
    if list_any (λ p. is_shown p word) parts then listed false separator (texts_of parts word) else codes "none"
