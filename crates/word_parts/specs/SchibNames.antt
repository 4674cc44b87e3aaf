-- The names of the parts of a path-management-control word (SA22-7832, chapter 15), and of what follows the status word in an
-- interruption-response block (chapter 16).
use Rattle.std.specs.Prelude.{ℕ, ◌==◌, List, [], ◌∷◌, codes, if◌then◌else◌}
use Rattle.word_parts.specs.Parts.{Named, bits, flag}
use Rattle.word_parts.specs.declared.part.Shown.TheVariants.{Always, NotZero, Paths}

abbrev pub word_0 : List Named
word_0 =
    bits 0 31 (Always 8) (codes "interruption parameter")
    ∷ []

abbrev pub word_1 : List Named
word_1 =
    bits 0 1 (NotZero 1) (codes "reserved bits 0-1")
    ∷ bits 2 4 (Always 1) (codes "ISC")
    ∷ bits 5 7 (NotZero 1) (codes "reserved bits 5-7")
    ∷ flag 8 (codes "E enabled")
    ∷ bits 9 10 (NotZero 1) (codes "LM limit mode")
    ∷ bits 11 12 (NotZero 1) (codes "MM measurement-mode enable")
    ∷ flag 13 (codes "D multipath mode")
    ∷ flag 14 (codes "T timing facility")
    ∷ flag 15 (codes "V device number valid")
    ∷ bits 16 31 (Always 4) (codes "device number")
    ∷ []

abbrev pub word_2 : List Named
word_2 =
    bits 0 7 Paths (codes "LPM")
    ∷ bits 8 15 Paths (codes "PNOM")
    ∷ bits 16 23 Paths (codes "LPUM")
    ∷ bits 24 31 Paths (codes "PIM")
    ∷ []

abbrev pub word_3 : List Named
word_3 =
    bits 0 15 (NotZero 4) (codes "MBI")
    ∷ bits 16 23 Paths (codes "POM")
    ∷ bits 24 31 Paths (codes "PAM")
    ∷ []

abbrev pub word_4 : List Named
word_4 =
    bits 0 7 (Always 2) (codes "CHPID 0")
    ∷ bits 8 15 (Always 2) (codes "CHPID 1")
    ∷ bits 16 23 (Always 2) (codes "CHPID 2")
    ∷ bits 24 31 (Always 2) (codes "CHPID 3")
    ∷ []

abbrev pub word_5 : List Named
word_5 =
    bits 0 7 (Always 2) (codes "CHPID 4")
    ∷ bits 8 15 (Always 2) (codes "CHPID 5")
    ∷ bits 16 23 (Always 2) (codes "CHPID 6")
    ∷ bits 24 31 (Always 2) (codes "CHPID 7")
    ∷ []

abbrev pub word_6 : List Named
word_6 =
    bits 0 30 (NotZero 1) (codes "reserved bits 0-30")
    ∷ flag 31 (codes "S concurrent sense")
    ∷ []

abbrev pub reserved : List Named
reserved =
    bits 0 31 (NotZero 8) (codes "reserved bits 0-31")
    ∷ []

-- the first word of the extended status
abbrev pub extended : List Named
extended =
    bits 0 7 (NotZero 2) (codes "reserved bits 0-7")
    ∷ bits 8 15 Paths (codes "LPUM")
    ∷ bits 16 31 (NotZero 4) (codes "reserved bits 16-31")
    ∷ []

-- the word of each index of a path-management-control word
abbrev pub pmcw_parts : ℕ → List Named
pmcw_parts index =
    if index == 0 then word_0
    else if index == 1 then word_1
    else if index == 2 then word_2
    else if index == 3 then word_3
    else if index == 4 then word_4
    else if index == 5 then word_5
    else if index == 6 then word_6
    else reserved

-- the word of each index of the extended status and the extended control
abbrev pub extended_by : ℕ → List Named
extended_by index = if index == 0 then extended else reserved
