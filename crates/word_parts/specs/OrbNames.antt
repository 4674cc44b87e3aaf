-- The names of the parts of an operation-request block (SA22-7832, chapter 15).
use Rattle.std.specs.Prelude.{ℕ, List, [], ◌∷◌, ◌++◌, codes, slice_index}
use Rattle.word_parts.specs.Parts.{Named, bits, flag, names_text}
use Rattle.word_parts.specs.declared.part.Shown.TheVariants.{Always, Format, NotZero}

abbrev pub word_0 : List Named
word_0 =
    bits 0 31 (Always 8) (codes "parameter")
    ∷ []

abbrev pub word_1 : List Named
word_1 =
    bits 0 3 (Always 1) (codes "key")
    ∷ flag 4 (codes "S suspend control")
    ∷ flag 5 (codes "C streaming-mode control")
    ∷ flag 6 (codes "M modification control")
    ∷ flag 7 (codes "Y synchronization control")
    ∷ bits 8 8 Format (codes "F CCW format 1")
    ∷ flag 9 (codes "P prefetch control")
    ∷ flag 10 (codes "I initial-status-interruption control")
    ∷ flag 11 (codes "A address-limit-checking control")
    ∷ flag 12 (codes "U suppress-suspended-interruption control")
    ∷ flag 13 (codes "B channel-program-type control")
    ∷ flag 14 (codes "H format-2-IDAW control")
    ∷ flag 15 (codes "T 2K-IDAW control")
    ∷ bits 16 23 (Always 2) (codes "LPM")
    ∷ flag 24 (codes "L incorrect-length-suppression mode")
    ∷ flag 25 (codes "D modified-CCW-indirect-data-addressing control")
    ∷ bits 26 30 (NotZero 1) (codes "reserved bits 26-30")
    ∷ flag 31 (codes "X ORB-extension control")
    ∷ []

abbrev pub word_2 : List Named
word_2 =
    flag 0 (codes "reserved bit 0")
    ∷ bits 1 31 (Always 1) (codes "program at")
    ∷ []

-- a word, and the separator after it
abbrev pub word_text : List Named → ℕ → List ℕ
word_text parts word = names_text (codes "; ") parts word ++ codes "; "

abbrev pub rest_text : ℕ → ℕ → List ℕ
rest_text control program = word_text word_1 control ++ names_text (codes "; ") word_2 program

abbrev pub three_text : ℕ → ℕ → ℕ → List ℕ
three_text parameter control program = word_text word_0 parameter ++ rest_text control program

abbrev pub orb_text : List ℕ → List ℕ
orb_text words = three_text (slice_index words 0) (slice_index words 1) (slice_index words 2)
