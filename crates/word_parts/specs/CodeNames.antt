-- The names of the parts of an interruption code (SA22-7832, chapter 16).
use Rattle.std.specs.Prelude.{ℕ, ◌==◌, ◌&&◌, Bool, List, [], ◌∷◌, ◌++◌, codes, if◌then◌else◌}
use Rattle.zbits.specs.Bits.{field_of}
use Rattle.word_parts.specs.Numbers.{hex_text}
use Rattle.word_parts.specs.Parts.{Named, bits, names_text}
use Rattle.word_parts.specs.declared.part.Shown.TheVariants.{Always, NotZero}

abbrev pub word_0 : List Named
word_0 =
    bits 0 12 (Always 4) (codes "bits 0-12")
    ∷ bits 13 14 (Always 1) (codes "set")
    ∷ bits 15 15 (Always 1) (codes "bit 15")
    ∷ bits 16 31 (Always 1) (codes "subchannel")
    ∷ []

abbrev pub word_2 : List Named
word_2 =
    bits 0 1 (NotZero 1) (codes "reserved bits 0-1")
    ∷ bits 2 4 (Always 1) (codes "interruption subclass")
    ∷ bits 5 31 (NotZero 1) (codes "reserved bits 5-31")
    ∷ []

-- bits 0 to 12 are zero and bit 15 is one in each word that names a subchannel
abbrev pub names_subchannel : ℕ → Bool
names_subchannel word = (field_of word 0 12 == 0) && (field_of word 15 15 == 1)

abbrev pub subchannel_text : ℕ → List ℕ
subchannel_text word = (codes "subchannel " ++ hex_text 1 (field_of word 16 31)) ++ (codes " of set " ++ hex_text 1 (field_of word 13 14))

-- a word that names a subchannel, or the parts of one that does not
abbrev pub identification_text : ℕ → List ℕ
identification_text word = if names_subchannel word then subchannel_text word else names_text (codes "; ") word_0 word

-- the word of each index
abbrev pub code_text : ℕ → ℕ → List ℕ
code_text index word =
    if index == 0 then identification_text word
    else if index == 1 then codes "interruption parameter"
    else names_text (codes "; ") word_2 word
