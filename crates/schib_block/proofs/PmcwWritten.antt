-- The words that are written for a word.
use Rattle.std.proofs.Common.{◌≡◌, ℕ, ◌==◌, Bool, true, false, List, [], ◌∷◌, ◌++◌, length, slice_index, map, refl, sym, ap, ◌∙◌, arith, subst, lit<}
use Rattle.zbits.specs.Bits.{field_of}
use Rattle.zbits.specs.Layout.{AllShow, AllTablesFit, bit_number, word_of}
use Rattle.zbits.proofs.LayoutLemmas.{bit_number-lt, shows_word_of, word_of-lt}
use Rattle.schib_block.specs.declared.pmcw.Pmcw.{Pmcw}
use Rattle.schib_block.specs.Ranges.{IsPmcwInRange}
use Rattle.schib_block.specs.Reading.{bytes_of_word, flag_of, limit_mode-lt, measurement_mode-lt, pmcw_of_words, subclass-lt}
use Rattle.schib_block.specs.SchibTable.{pmcw_tables, word_0, word_2, word_3, word_4, word_5}
use Rattle.schib_block.specs.PmcwWords.{ArePmcwWords}
use Rattle.schib_block.specs.PmcwPacking.{covered_1, covered_6, covered_pmcw, same-words}
use Rattle.schib_block.proofs.PmcwModifying.{same-listed, seven-fit}

fits : (p : Pmcw) → IsPmcwInRange p → AllTablesFit (covered_pmcw p)
fits p range = (
  (range.parameter, tt),
  (
    (lit< tt, (p.subclass_fits, (lit< tt, (bit_number-lt p.enabled, (p.limit_fits, (p.measurement_fits, (bit_number-lt p.multipath, (bit_number-lt p.timing, (bit_number-lt p.valid, (range.device_number, tt)))))))))),
    (
      (range.logical, (range.not_operational, (range.last_used, (range.installed, tt)))),
      (
        (range.measurement_block, (range.operational, (range.available, tt))),
        (
          (range.chpids 0, (range.chpids 1, (range.chpids 2, (range.chpids 3, tt)))),
          ((range.chpids 4, (range.chpids 5, (range.chpids 6, (range.chpids 7, tt)))), ((lit< tt, (bit_number-lt p.concurrent_sense, tt)), tt)),
        ),
      ),
    ),
  ),
)

written-are : (p : Pmcw) → IsPmcwInRange p → ArePmcwWords (map word_of (covered_pmcw p))
written-are p range =
    let fit = fits p range in
    record {
      seven = refl;
      fit = seven-fit (word_of (word_0 p)) (word_of (covered_1 p)) (word_of (word_2 p)) (word_of (word_3 p)) (word_of (word_4 p)) (word_of (word_5 p)) (word_of (covered_6 p))
          (word_of-lt 0 (word_0 p) refl fit.0) (word_of-lt 0 (covered_1 p) refl fit.1.0) (word_of-lt 0 (word_2 p) refl fit.1.1.0) (word_of-lt 0 (word_3 p) refl fit.1.1.1.0)
          (word_of-lt 0 (word_4 p) refl fit.1.1.1.1.0) (word_of-lt 0 (word_5 p) refl fit.1.1.1.1.1.0) (word_of-lt 0 (covered_6 p) refl fit.1.1.1.1.1.1.0);
      front = (shows_word_of (covered_1 p) refl fit.1.0).0;
      between = (shows_word_of (covered_1 p) refl fit.1.0).1.1.0;
      last = (shows_word_of (covered_6 p) refl fit.1.1.1.1.1.1.0).0;
    }

bit-flag : (b : Bool) → (bit_number b == 1) ≡ b
bit-flag true = refl
bit-flag false = refl

shown-flag : (word bit : ℕ) (b : Bool) → field_of word bit bit ≡ bit_number b → flag_of word bit ≡ b
shown-flag word bit b h = ap (λ (n : ℕ). n == 1) h ∙ bit-flag b

eight-items : (xs : List ℕ) → length xs ≡ 8 → slice_index xs 0 ∷ slice_index xs 1 ∷ slice_index xs 2 ∷ slice_index xs 3 ∷ slice_index xs 4 ∷ slice_index xs 5 ∷ slice_index xs 6 ∷ slice_index xs 7 ∷ [] ≡ xs
eight-items (a ∷ b ∷ c ∷ d ∷ e ∷ f ∷ g ∷ h ∷ []) n = refl
eight-items (a ∷ b ∷ c ∷ d ∷ e ∷ f ∷ g ∷ h ∷ x ∷ xs) n = absurd (omega (arith, n))
eight-items [] n = absurd (omega (arith, n))
eight-items (a ∷ []) n = absurd (omega (arith, n))
eight-items (a ∷ b ∷ []) n = absurd (omega (arith, n))
eight-items (a ∷ b ∷ c ∷ []) n = absurd (omega (arith, n))
eight-items (a ∷ b ∷ c ∷ d ∷ []) n = absurd (omega (arith, n))
eight-items (a ∷ b ∷ c ∷ d ∷ e ∷ []) n = absurd (omega (arith, n))
eight-items (a ∷ b ∷ c ∷ d ∷ e ∷ f ∷ []) n = absurd (omega (arith, n))
eight-items (a ∷ b ∷ c ∷ d ∷ e ∷ f ∷ g ∷ []) n = absurd (omega (arith, n))

-- words that show the table of a word are read as it
read-is : (a b c d e f g : ℕ) (p : Pmcw) → AllShow (a ∷ b ∷ c ∷ d ∷ e ∷ f ∷ g ∷ []) (covered_pmcw p) → a ≡ p.parameter → length p.chpids ≡ 8
    → pmcw_of_words (a ∷ b ∷ c ∷ d ∷ e ∷ f ∷ g ∷ []) ≡ p
read-is a b c d e f g p h parameter long =
    let h1 = h.1.0 in
    let h2 = h.1.1.0 in
    let h3 = h.1.1.1.0 in
    let h4 = h.1.1.1.1.0 in
    let h5 = h.1.1.1.1.1.0 in
    let h6 = h.1.1.1.1.1.1.0 in
    let enabled : flag_of b 8 ≡ p.enabled = shown-flag b 8 p.enabled h1.1.1.1.0 in
    let multipath : flag_of b 13 ≡ p.multipath = shown-flag b 13 p.multipath h1.1.1.1.1.1.1.0 in
    let timing : flag_of b 14 ≡ p.timing = shown-flag b 14 p.timing h1.1.1.1.1.1.1.1.0 in
    let valid : flag_of b 15 ≡ p.valid = shown-flag b 15 p.valid h1.1.1.1.1.1.1.1.1.0 in
    let device : field_of b 16 31 ≡ p.device_number = h1.1.1.1.1.1.1.1.1.1.0 in
    let sense : flag_of g 31 ≡ p.concurrent_sense = shown-flag g 31 p.concurrent_sense h6.1.0 in
    let n2 : field_of c 0 7 ≡ p.logical = h2.0 in
    let n3 : field_of c 8 15 ≡ p.not_operational = h2.1.0 in
    let n4 : field_of c 16 23 ≡ p.last_used = h2.1.1.0 in
    let n5 : field_of c 24 31 ≡ p.installed = h2.1.1.1.0 in
    let n6 : field_of d 0 15 ≡ p.measurement_block = h3.0 in
    let n7 : field_of d 16 23 ≡ p.operational = h3.1.0 in
    let n8 : field_of d 24 31 ≡ p.available = h3.1.1.0 in
    let i0 : field_of e 0 7 ≡ slice_index p.chpids 0 = h4.0 in
    let i1 : field_of e 8 15 ≡ slice_index p.chpids 1 = h4.1.0 in
    let i2 : field_of e 16 23 ≡ slice_index p.chpids 2 = h4.1.1.0 in
    let i3 : field_of e 24 31 ≡ slice_index p.chpids 3 = h4.1.1.1.0 in
    let i4 : field_of f 0 7 ≡ slice_index p.chpids 4 = h5.0 in
    let i5 : field_of f 8 15 ≡ slice_index p.chpids 5 = h5.1.0 in
    let i6 : field_of f 16 23 ≡ slice_index p.chpids 6 = h5.1.1.0 in
    let i7 : field_of f 24 31 ≡ slice_index p.chpids 7 = h5.1.1.1.0 in
    let flags : flag_of b 8 ∷ flag_of b 13 ∷ flag_of b 14 ∷ flag_of b 15 ∷ flag_of g 31 ∷ [] ≡ p.enabled ∷ p.multipath ∷ p.timing ∷ p.valid ∷ p.concurrent_sense ∷ [] = cc in
    let numbers : a ∷ field_of b 16 31 ∷ field_of c 0 7 ∷ field_of c 8 15 ∷ field_of c 16 23 ∷ field_of c 24 31 ∷ field_of d 0 15 ∷ field_of d 16 23 ∷ field_of d 24 31 ∷ []
    ≡ p.parameter ∷ p.device_number ∷ p.logical ∷ p.not_operational ∷ p.last_used ∷ p.installed ∷ p.measurement_block ∷ p.operational ∷ p.available ∷ [] = cc in
    let ids : bytes_of_word e ++ bytes_of_word f ≡ slice_index p.chpids 0 ∷ slice_index p.chpids 1 ∷ slice_index p.chpids 2 ∷ slice_index p.chpids 3
    ∷ slice_index p.chpids 4 ∷ slice_index p.chpids 5 ∷ slice_index p.chpids 6 ∷ slice_index p.chpids 7 ∷ [] = cc in
    same-listed (field_of b 2 4) (subclass-lt b) (field_of b 9 10) (limit_mode-lt b) (field_of b 11 12) (measurement_mode-lt b)
    (flag_of b 8 ∷ flag_of b 13 ∷ flag_of b 14 ∷ flag_of b 15 ∷ flag_of g 31 ∷ [])
    (a ∷ field_of b 16 31 ∷ field_of c 0 7 ∷ field_of c 8 15 ∷ field_of c 16 23 ∷ field_of c 24 31 ∷ field_of d 0 15 ∷ field_of d 16 23 ∷ field_of d 24 31 ∷ []) (bytes_of_word e ++ bytes_of_word f)
    p.subclass p.subclass_fits p.limit_mode p.limit_fits p.measurement_mode p.measurement_fits
    (p.enabled ∷ p.multipath ∷ p.timing ∷ p.valid ∷ p.concurrent_sense ∷ [])
    (p.parameter ∷ p.device_number ∷ p.logical ∷ p.not_operational ∷ p.last_used ∷ p.installed ∷ p.measurement_block ∷ p.operational ∷ p.available ∷ []) p.chpids
    h1.1.0 h1.1.1.1.1.0 h1.1.1.1.1.1.0 flags numbers (ids ∙ eight-items p.chpids long)

shown : (p : Pmcw) → IsPmcwInRange p → AllShow (map word_of (covered_pmcw p)) (covered_pmcw p)
shown p range =
    let fit = fits p range in (
      shows_word_of (word_0 p) refl fit.0,
      (
        shows_word_of (covered_1 p) refl fit.1.0,
        (
          shows_word_of (word_2 p) refl fit.1.1.0,
          (
            shows_word_of (word_3 p) refl fit.1.1.1.0,
            (shows_word_of (word_4 p) refl fit.1.1.1.1.0, (shows_word_of (word_5 p) refl fit.1.1.1.1.1.0, (shows_word_of (covered_6 p) refl fit.1.1.1.1.1.1.0, tt))),
          ),
        ),
      ),
    )

pub packed-are : (words : List ℕ) (p : Pmcw) → IsPmcwInRange p → words ≡ map word_of (pmcw_tables p) → ArePmcwWords words
packed-are words p range h = subst ArePmcwWords (same-words p ∙ sym h) (written-are p range)

pub packed-is : (words : List ℕ) (p : Pmcw) → IsPmcwInRange p → length p.chpids ≡ 8 → words ≡ map word_of (pmcw_tables p) → pmcw_of_words words ≡ p
packed-is words p range long h =
    let parameter : word_of (word_0 p) ≡ p.parameter = omega arith in
    ap pmcw_of_words (h ∙ sym (same-words p))
    ∙ read-is (word_of (word_0 p)) (word_of (covered_1 p)) (word_of (word_2 p)) (word_of (word_3 p)) (word_of (word_4 p)) (word_of (word_5 p)) (word_of (covered_6 p)) p
    (shown p range) parameter long
