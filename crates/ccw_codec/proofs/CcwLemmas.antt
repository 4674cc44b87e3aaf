-- Two words and their tables.
use Rattle.std.proofs.Common.{◌≡◌, ◌<◌, ◌^◌, ℕ, List, [], ◌∷◌, length, slice_index, lit<, refl, arith}
use Rattle.zbits.specs.Layout.{AllTablesFit}
use Rattle.zbits.proofs.LayoutLemmas.{bit_number-lt}
use Rattle.ccw_codec.specs.declared.Ccw.{Ccw}
use Rattle.ccw_codec.specs.CcwTable.{IsInRange, ccw_tables_0, ccw_tables_1}

-- a list of two is its two items
pub two_items : (xs : List ℕ) → length xs ≡ 2 → xs ≡ slice_index xs 0 ∷ slice_index xs 1 ∷ []
two_items (x ∷ y ∷ []) n = refl
two_items [] n = absurd (omega (arith, n))
two_items (x ∷ []) n = absurd (omega (arith, n))
two_items (x ∷ y ∷ z ∷ xs) n = absurd (omega (arith, n))

-- the numbers fit the tables
pub fits_0 : (c : Ccw) → IsInRange c → c.address < 2 ^ 24 → AllTablesFit (ccw_tables_0 c)
fits_0 c range short = (
  (range.0, (short, tt)),
  (
    (bit_number-lt c.chain_data, (bit_number-lt c.chain_command, (bit_number-lt c.suppress_length, (bit_number-lt c.skip, (bit_number-lt c.program_controlled, (bit_number-lt c.indirect, (bit_number-lt c.suspend, (lit< tt, (lit< tt, (range.1, tt)))))))))),
    tt,
  ),
)

pub fits_1 : (c : Ccw) → IsInRange c → AllTablesFit (ccw_tables_1 c)
fits_1 c range = (
  (range.0, (bit_number-lt c.chain_data, (bit_number-lt c.chain_command, (bit_number-lt c.suppress_length, (bit_number-lt c.skip, (bit_number-lt c.program_controlled, (bit_number-lt c.indirect, (bit_number-lt c.suspend, (lit< tt, (range.1, tt)))))))))),
  ((lit< tt, (c.address_fits, tt)), tt),
)
