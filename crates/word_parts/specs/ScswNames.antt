-- The names of the parts of a subchannel-status word (SA22-7832, chapter 16).
use Rattle.std.specs.Prelude.{List, [], ◌∷◌, ◌++◌, codes}
use Rattle.word_parts.specs.Parts.{Named, bits, flag}
use Rattle.word_parts.specs.declared.part.Shown.TheVariants.{Always, Format, NotZero}

-- word 0 left of the function field
abbrev pub control : List Named
control =
    bits 0 3 (NotZero 1) (codes "key")
    ∷ flag 4 (codes "S suspend control")
    ∷ flag 5 (codes "L ESW format")
    ∷ bits 6 7 (NotZero 1) (codes "deferred condition code")
    ∷ bits 8 8 Format (codes "F CCW format 1")
    ∷ flag 9 (codes "P prefetch control")
    ∷ flag 10 (codes "I initial-status-interruption control")
    ∷ flag 11 (codes "A address-limit-checking control")
    ∷ flag 12 (codes "U suppress-suspended-interruption control")
    ∷ flag 13 (codes "Z zero condition code")
    ∷ flag 14 (codes "E extended control")
    ∷ flag 15 (codes "N path not operational")
    ∷ flag 16 (codes "reserved bit 16")
    ∷ []

-- FC
abbrev pub functions : List Named
functions =
    flag 17 (codes "start")
    ∷ flag 18 (codes "halt")
    ∷ flag 19 (codes "clear")
    ∷ []

-- AC
abbrev pub activity : List Named
activity =
    flag 20 (codes "resume pending")
    ∷ flag 21 (codes "start pending")
    ∷ flag 22 (codes "halt pending")
    ∷ flag 23 (codes "clear pending")
    ∷ flag 24 (codes "subchannel active")
    ∷ flag 25 (codes "device active")
    ∷ flag 26 (codes "suspended")
    ∷ []

-- SC, but for the bit that says that status is pending
abbrev pub status_names : List Named
status_names =
    flag 27 (codes "alert")
    ∷ flag 28 (codes "intermediate")
    ∷ flag 29 (codes "primary")
    ∷ flag 30 (codes "secondary")
    ∷ []

-- SC
abbrev pub status_control : List Named
status_control = status_names ++ flag 31 (codes "status pending") ∷ []

-- the device status, the first byte of word 2
abbrev pub device : List Named
device =
    flag 0 (codes "attention")
    ∷ flag 1 (codes "status modifier")
    ∷ flag 2 (codes "control-unit end")
    ∷ flag 3 (codes "busy")
    ∷ flag 4 (codes "channel end")
    ∷ flag 5 (codes "device end")
    ∷ flag 6 (codes "unit check")
    ∷ flag 7 (codes "unit exception")
    ∷ []

-- the subchannel status, the second
abbrev pub subchannel : List Named
subchannel =
    flag 8 (codes "program-controlled interruption")
    ∷ flag 9 (codes "incorrect length")
    ∷ flag 10 (codes "program check")
    ∷ flag 11 (codes "protection check")
    ∷ flag 12 (codes "channel-data check")
    ∷ flag 13 (codes "channel-control check")
    ∷ flag 14 (codes "interface-control check")
    ∷ flag 15 (codes "chaining check")
    ∷ []

-- what is left of the count
abbrev pub count : List Named
count =
    bits 16 31 (Always 1) (codes "count")
    ∷ []

-- both, by abbreviations where there are usual ones
abbrev pub short : List Named
short =
    flag 0 (codes "attention")
    ∷ flag 1 (codes "status modifier")
    ∷ flag 2 (codes "control-unit end")
    ∷ flag 3 (codes "busy")
    ∷ flag 4 (codes "CE")
    ∷ flag 5 (codes "DE")
    ∷ flag 6 (codes "UC")
    ∷ flag 7 (codes "unit exception")
    ∷ flag 8 (codes "PCI")
    ∷ flag 9 (codes "IL")
    ∷ flag 10 (codes "program check")
    ∷ flag 11 (codes "protection check")
    ∷ flag 12 (codes "channel-data check")
    ∷ flag 13 (codes "channel-control check")
    ∷ flag 14 (codes "IFCC")
    ∷ flag 15 (codes "chaining check")
    ∷ []

-- the three words
abbrev pub word_0 : List Named
word_0 = control ++ functions ++ activity ++ status_control

abbrev pub word_1 : List Named
word_1 = bits 0 31 (Always 1) (codes "CCW address") ∷ []

abbrev pub word_2 : List Named
word_2 = device ++ subchannel ++ count
