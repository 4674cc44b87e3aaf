-- The seven words and the path-management-control word (SA22-7832, chapter 15): each is made of the other.
use Rattle.std.proofs.Common.{◌≡◌, ℕ, zero, suc, ◌/◌, ◌%◌, ◌^◌, ◌<◌, ◌==◌, List, [], ◌∷◌, length, slice_index, map, refl, sym, ◌∙◌, arith, subst, lit<}
use Rattle.std.proofs.lemmas.Nat.{mod_below}
use Rattle.zbits.specs.declared.layout.BitField.{BitField}
use Rattle.zbits.specs.Bits.{field_of, weight}
use Rattle.zbits.specs.Layout.{AllShow, at, bit_number, flag_at, word_of, zeros}
use Rattle.zbits.proofs.LayoutLemmas.{map-word_of-shown}
use Rattle.schib_block.specs.declared.pmcw.Pmcw.{Pmcw}
use Rattle.schib_block.specs.Reading.{flag_of, pmcw_of_words}
use Rattle.schib_block.specs.SchibTable.{pmcw_tables, word_0, word_1, word_2, word_3, word_4, word_5, word_6}
use Rattle.schib_block.specs.PmcwWords.{ArePmcwWords}

-- the tables with the reserved bits as zeros, which cover their words
abbrev pub covered_1 : Pmcw → List BitField
covered_1 p =
    zeros 0 1 ∷ at 2 4 p.subclass ∷ zeros 5 7 ∷ flag_at 8 p.enabled ∷ at 9 10 p.limit_mode ∷ at 11 12 p.measurement_mode
    ∷ flag_at 13 p.multipath ∷ flag_at 14 p.timing ∷ flag_at 15 p.valid ∷ at 16 31 p.device_number ∷ []

abbrev pub covered_6 : Pmcw → List BitField
covered_6 p = zeros 0 30 ∷ flag_at 31 p.concurrent_sense ∷ []

abbrev pub covered_pmcw : Pmcw → List (List BitField)
covered_pmcw p = word_0 p ∷ covered_1 p ∷ word_2 p ∷ word_3 p ∷ word_4 p ∷ word_5 p ∷ covered_6 p ∷ []

same_1 : (p : Pmcw) → word_of (covered_1 p) ≡ word_of (word_1 p)
same_1 p = omega arith

same_6 : (p : Pmcw) → word_of (covered_6 p) ≡ word_of (word_6 p)
same_6 p = omega arith

pub same-words : (p : Pmcw) → map word_of (covered_pmcw p) ≡ map word_of (pmcw_tables p)
same-words p =
    let first = same_1 p in
    let last = same_6 p in
    cc

-- one bit, as a flag and as a number
one-bit : (n : ℕ) → n < 2 → n ≡ bit_number (n == 1)
one-bit zero h = refl
one-bit (suc zero) h = refl
one-bit (suc (suc n)) h = absurd (omega (arith, h))

pub seven-items : (xs : List ℕ) → length xs ≡ 7 → xs ≡ slice_index xs 0 ∷ slice_index xs 1 ∷ slice_index xs 2 ∷ slice_index xs 3 ∷ slice_index xs 4 ∷ slice_index xs 5 ∷ slice_index xs 6 ∷ []
seven-items (a ∷ b ∷ c ∷ d ∷ e ∷ f ∷ g ∷ []) h = refl
seven-items xs h = absurd (omega (arith, h))

-- words show the table of the word that they are
shown : (a b c d e f g : ℕ) → a < 2 ^ 32 → field_of b 0 1 ≡ 0 → field_of b 5 7 ≡ 0 → field_of g 0 30 ≡ 0
    → AllShow (a ∷ b ∷ c ∷ d ∷ e ∷ f ∷ g ∷ []) (covered_pmcw (pmcw_of_words (a ∷ b ∷ c ∷ d ∷ e ∷ f ∷ g ∷ [])))
shown a b c d e f g fits x y z =
    let flag : (w bit : ℕ) → field_of w bit bit < 2 → field_of w bit bit ≡ bit_number (flag_of w bit) = λ w bit h. one-bit (field_of w bit bit) h in
    let low : (w bit : ℕ) → w / weight bit % 2 < 2 = λ w bit. mod_below (w / weight bit) 2 (lit< tt) in
    let parameter : field_of a 0 31 ≡ a = omega (arith, fits) in (
      (parameter, tt),
      (
        (x, (refl, (y, (flag b 8 (low b 8), (refl, (refl, (flag b 13 (low b 13), (flag b 14 (low b 14), (flag b 15 (low b 15), (refl, tt)))))))))),
        (
          (refl, (refl, (refl, (refl, tt)))),
          ((refl, (refl, (refl, tt))), ((refl, (refl, (refl, (refl, tt)))), ((refl, (refl, (refl, (refl, tt)))), ((z, (flag g 31 (low g 31), tt)), tt)))),
        ),
      ),
    )

-- so they are its image
pub words-are : (words : List ℕ) → ArePmcwWords words → words ≡ map word_of (pmcw_tables (pmcw_of_words words))
words-are words w =
    let p = pmcw_of_words words in
    map-word_of-shown words (covered_pmcw p) w.fit refl
    (subst (λ (ws : List ℕ). AllShow ws (covered_pmcw p)) (sym (seven-items words w.seven))
    (shown (slice_index words 0) (slice_index words 1) (slice_index words 2) (slice_index words 3) (slice_index words 4) (slice_index words 5) (slice_index words 6)
    (w.fit 0) w.front w.between w.last))
    ∙ same-words p
