-- The words of a block show the fields of the path-management-control word that they are, whatever their reserved bits.
use Rattle.std.proofs.Common.{◌≡◌, ℕ, zero, suc, ◌/◌, ◌%◌, ◌^◌, ◌<◌, ◌==◌, List, [], ◌∷◌, slice_index, refl, ap, arith, lit<}
use Rattle.std.proofs.lemmas.Nat.{mod_below}
use Rattle.zbits.specs.Bits.{field_of, weight}
use Rattle.zbits.specs.Layout.{AllShow, bit_number}
use Rattle.zbits.specs.Words.{word_at, words_from, words_of}
use Rattle.schib_block.specs.Reading.{flag_of, pmcw_of_words}
use Rattle.schib_block.specs.SchibTable.{pmcw_tables}

-- one bit, as a flag and as a number
one-bit : (n : ℕ) → n < 2 → n ≡ bit_number (n == 1)
one-bit zero h = refl
one-bit (suc zero) h = refl
one-bit (suc (suc n)) h = absurd (omega (arith, h))

flag-is : (word bit : ℕ) → field_of word bit bit < 2 → field_of word bit bit ≡ bit_number (flag_of word bit)
flag-is word bit h = one-bit (field_of word bit bit) h

low : (word bit : ℕ) → word / weight bit % 2 < 2
low word bit = mod_below (word / weight bit) 2 (lit< tt)

pub shown : (a b c d e f g : ℕ) → a < 2 ^ 32 → AllShow (a ∷ b ∷ c ∷ d ∷ e ∷ f ∷ g ∷ []) (pmcw_tables (pmcw_of_words (a ∷ b ∷ c ∷ d ∷ e ∷ f ∷ g ∷ [])))
shown a b c d e f g fits =
    let parameter : field_of a 0 31 ≡ a = omega (arith, fits) in (
      (parameter, tt),
      (
        (refl, (flag-is b 8 (low b 8), (refl, (refl, (flag-is b 13 (low b 13), (flag-is b 14 (low b 14), (flag-is b 15 (low b 15), (refl, tt)))))))),
        (
          (refl, (refl, (refl, (refl, tt)))),
          ((refl, (refl, (refl, tt))), ((refl, (refl, (refl, (refl, tt)))), ((refl, (refl, (refl, (refl, tt)))), ((flag-is g 31 (low g 31), tt), tt)))),
        ),
      ),
    )

-- the second of them
pub second : (image words : List ℕ) → words ≡ words_of 7 image → slice_index words 1 ≡ word_at image 1
unfolding words_from
second image words same = ap (λ (ws : List ℕ). slice_index ws 1) same
