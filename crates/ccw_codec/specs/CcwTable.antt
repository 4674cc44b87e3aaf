-- Where each part of a channel-command word stands in its eight bytes (SA22-7832, chapter 15).
use Rattle.std.specs.Prelude.{ℕ, ◌+◌, ◌<◌, ◌^◌, List, [], ◌∷◌, ◌++◌, ⊤}
use Rattle.zbits.specs.declared.layout.BitField.{BitField}
use Rattle.zbits.specs.Layout.{at, flag_at, zeros}
use Rattle.ccw_codec.specs.declared.Ccw.{Ccw}
use Rattle.ccw_codec.specs.declared.Format.{Format}
use Rattle.ccw_codec.specs.declared.Format.TheVariants.{Zero, One}

-- the flags from this bit on; the last is the one for modified indirect words, which is zero
abbrev pub flag_table : ℕ → Ccw → List BitField
flag_table bit ccw =
    flag_at bit ccw.chain_data
    ∷ flag_at (bit + 1) ccw.chain_command
    ∷ flag_at (bit + 2) ccw.suppress_length
    ∷ flag_at (bit + 3) ccw.skip
    ∷ flag_at (bit + 4) ccw.program_controlled
    ∷ flag_at (bit + 5) ccw.indirect
    ∷ flag_at (bit + 6) ccw.suspend
    ∷ zeros (bit + 7) (bit + 7)
    ∷ []

-- format 0: command and address, and then flags, a byte that is ignored, and count
abbrev pub first_0 : Ccw → List BitField
first_0 ccw = at 0 7 ccw.command ∷ at 8 31 ccw.address ∷ []

abbrev pub second_0 : Ccw → List BitField
second_0 ccw = flag_table 0 ccw ++ zeros 8 15 ∷ at 16 31 ccw.count ∷ []

abbrev pub ccw_tables_0 : Ccw → List (List BitField)
ccw_tables_0 ccw = first_0 ccw ∷ second_0 ccw ∷ []

-- format 1: command, flags and count, and then the address
abbrev pub first_1 : Ccw → List BitField
first_1 ccw = at 0 7 ccw.command ∷ [] ++ flag_table 8 ccw ++ at 16 31 ccw.count ∷ []

abbrev pub second_1 : Ccw → List BitField
second_1 ccw = zeros 0 0 ∷ at 1 31 ccw.address ∷ []

abbrev pub ccw_tables_1 : Ccw → List (List BitField)
ccw_tables_1 ccw = first_1 ccw ∷ second_1 ccw ∷ []

-- the table of the two words of a format
abbrev pub ccw_tables : Format → Ccw → List (List BitField)
ccw_tables Zero ccw = ccw_tables_0 ccw
ccw_tables One ccw = ccw_tables_1 ccw

-- the address has a place in this format: in format 0 it has 24 bits
abbrev pub FitsFormat : Format → Ccw → Type 0
FitsFormat Zero ccw = ccw.address < 2 ^ 24
FitsFormat One ccw = ⊤

-- the numbers are those of their types
abbrev pub IsInRange : Ccw → Type 0
IsInRange ccw = (ccw.command < 256) × (ccw.count < 2 ^ 16)
