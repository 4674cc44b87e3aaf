-- Where each part of an I/O-interruption code stands in its three words (SA22-7832, chapter 16).
use Rattle.std.specs.Prelude.{ℕ, ◌≡◌, true, List, [], ◌∷◌, slice_index}
use Rattle.zbits.specs.declared.layout.BitField.{BitField}
use Rattle.zbits.specs.Bits.{field_of}
use Rattle.zbits.specs.Layout.{at, flag_at, zeros}
use Rattle.scsw_irb.specs.declared.code.IntCode.{IntCode}

-- the subsystem-identification word
abbrev pub identification : IntCode → List BitField
identification code = zeros 0 12 ∷ at 13 14 code.set ∷ flag_at 15 true ∷ at 16 31 code.subchannel ∷ []

-- the interruption-identification word
abbrev pub interruption : IntCode → List BitField
interruption code = zeros 0 1 ∷ at 2 4 code.subclass ∷ zeros 5 31 ∷ []

-- the table of the code's three words
abbrev pub code_tables : IntCode → List (List BitField)
code_tables code = identification code ∷ (at 0 31 code.parameter ∷ []) ∷ interruption code ∷ []

-- the bits that are the same in each code are as they must be
abbrev pub IsCode : List ℕ → Type 0
IsCode words =
    (field_of (slice_index words 0) 0 12 ≡ 0)
    × (field_of (slice_index words 0) 15 15 ≡ 1)
    × (field_of (slice_index words 2) 0 1 ≡ 0)
    × (field_of (slice_index words 2) 5 31 ≡ 0)
