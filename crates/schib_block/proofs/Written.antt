-- A block that is written: its tables with the reserved bits as zeros, which cover their words.
use Rattle.std.proofs.Common.{◌≡◌, ℕ, List, [], ◌∷◌, ◌++◌, ◌∙◌, map, take, drop, replicate, refl, sym, ap, lit<, arith, subst}
use Rattle.zbits.specs.declared.layout.BitField.{BitField}
use Rattle.zbits.specs.Words.{bytes_of_words, words_from, words_of}
use Rattle.zbits.specs.Layout.{AllFit, AllShow, AllTablesFit, ShowsFields, at, flag_at, image_of, word_of, zeros}
use Rattle.zbits.proofs.LayoutLemmas.{bit_number-lt, shows_word_of}
use Rattle.zbits.proofs.OneImage.{same_table, words_of-image_of}
use Rattle.scsw_irb.specs.ScswTable.{scsw_tables, zero_word}
use Rattle.scsw_irb.proofs.Fits.{scsw-fit}
use Rattle.schib_block.specs.declared.pmcw.Pmcw.{Pmcw}
use Rattle.schib_block.specs.declared.schib.Schib.{Schib}
use Rattle.schib_block.specs.Ranges.{IsPmcwInRange, IsSchibInRange}
use Rattle.schib_block.specs.SchibTable.{word_0, word_1, word_2, word_3, word_4, word_5, word_6, pmcw_tables, schib_tables, scsw_words}

abbrev covered_1 : Pmcw → List BitField
covered_1 p =
    zeros 0 1
    ∷ at 2 4 p.subclass
    ∷ zeros 5 7
    ∷ flag_at 8 p.enabled
    ∷ at 9 10 p.limit_mode
    ∷ at 11 12 p.measurement_mode
    ∷ flag_at 13 p.multipath
    ∷ flag_at 14 p.timing
    ∷ flag_at 15 p.valid
    ∷ at 16 31 p.device_number
    ∷ []

abbrev covered_6 : Pmcw → List BitField
covered_6 p = zeros 0 30 ∷ flag_at 31 p.concurrent_sense ∷ []

abbrev covered_pmcw : Pmcw → List (List BitField)
covered_pmcw p = word_0 p ∷ covered_1 p ∷ word_2 p ∷ word_3 p ∷ word_4 p ∷ word_5 p ∷ covered_6 p ∷ []

abbrev covered : Schib → List (List BitField)
covered s = covered_pmcw s.pmcw ++ scsw_tables s.scsw ++ replicate 3 zero_word

same_1 : (p : Pmcw) → word_of (covered_1 p) ≡ word_of (word_1 p)
same_1 p = omega arith

same_6 : (p : Pmcw) → word_of (covered_6 p) ≡ word_of (word_6 p)
same_6 p = omega arith

same_words : (s : Schib) → map word_of (covered s) ≡ map word_of (schib_tables s)
same_words s =
    let first = same_1 s.pmcw in
    let last = same_6 s.pmcw in
    cc

pmcw-fit : (p : Pmcw) → IsPmcwInRange p → AllTablesFit (covered_pmcw p)
pmcw-fit p range = (
  (range.parameter, tt),
  (
    (lit< tt, (p.subclass_fits, (lit< tt, (bit_number-lt p.enabled, (p.limit_fits, (p.measurement_fits, (bit_number-lt p.multipath, (bit_number-lt p.timing, (bit_number-lt p.valid, (range.device_number, tt)))))))))),
    (
      (range.logical, (range.not_operational, (range.last_used, (range.installed, tt)))),
      (
        (range.measurement_block, (range.operational, (range.available, tt))),
        (
          (range.chpids 0, (range.chpids 1, (range.chpids 2, (range.chpids 3, tt)))),
          ((range.chpids 4, (range.chpids 5, (range.chpids 6, (range.chpids 7, tt)))), ((lit< tt, (bit_number-lt p.concurrent_sense, tt)), tt)),
        ),
      ),
    ),
  ),
)

AllTablesFit-append : (s t : List (List BitField)) → AllTablesFit s → AllTablesFit t → AllTablesFit (s ++ t)
AllTablesFit-append [] t a b = b
AllTablesFit-append (x ∷ s) t a b = (a.0, AllTablesFit-append s t a.1 b)

zeros-fit : AllFit zero_word
zeros-fit = (lit< tt, tt)

schib-fit : (s : Schib) → IsSchibInRange s → AllTablesFit (covered s)
schib-fit s range =
    AllTablesFit-append (covered_pmcw s.pmcw ++ scsw_tables s.scsw) (replicate 3 zero_word)
    (AllTablesFit-append (covered_pmcw s.pmcw) (scsw_tables s.scsw) (pmcw-fit s.pmcw range.pmcw) (scsw-fit s.scsw range.scsw))
    (zeros-fit, (zeros-fit, (zeros-fit, tt)))

-- the words of the image are those of the tables
all_words : (s : Schib) → IsSchibInRange s → words_of 13 (image_of (schib_tables s)) ≡ map word_of (covered s)
all_words s range =
    subst (λ (words : List ℕ). words_of 13 (bytes_of_words words) ≡ map word_of (covered s)) (same_words s) (words_of-image_of (covered s) refl (schib-fit s range))

front_words : (image : List ℕ) → take 7 (words_of 13 image) ≡ words_of 7 image
unfolding words_from
front_words image = refl

middle_words : (image : List ℕ) → take 3 (drop 7 (words_of 13 image)) ≡ words_from 7 3 image
unfolding words_from
middle_words image = refl

pub pmcw_words : (s : Schib) → IsSchibInRange s → words_of 7 (image_of (schib_tables s)) ≡ map word_of (covered_pmcw s.pmcw)
pmcw_words s range = sym (front_words (image_of (schib_tables s))) ∙ ap (λ (words : List ℕ). take 7 words) (all_words s range)

pub status_words : (s : Schib) → IsSchibInRange s → scsw_words (image_of (schib_tables s)) ≡ map word_of (scsw_tables s.scsw)
status_words s range = sym (middle_words (image_of (schib_tables s))) ∙ ap (λ (words : List ℕ). take 3 (drop 7 words)) (all_words s range)

shows_1 : (p : Pmcw) → AllFit (covered_1 p) → ShowsFields (word_of (covered_1 p)) (word_1 p)
shows_1 p fit =
    let shown = shows_word_of (covered_1 p) refl fit in
    (shown.1.0, shown.1.1.1)

shows_6 : (p : Pmcw) → AllFit (covered_6 p) → ShowsFields (word_of (covered_6 p)) (word_6 p)
shows_6 p fit = (shows_word_of (covered_6 p) refl fit).1

-- equal tables, one after the other
cons : (x y : List BitField) (xs ys : List (List BitField)) → x ≡ y → xs ≡ ys → x ∷ xs ≡ y ∷ ys
cons x y xs ys h t = ap (λ (z : List BitField). z ∷ xs) h ∙ ap (λ (zs : List (List BitField)). y ∷ zs) t

-- a word whose fields the words of a word show is that word
pub same_pmcw : (p q : Pmcw) → IsPmcwInRange p → AllShow (map word_of (covered_pmcw p)) (pmcw_tables q) → pmcw_tables p ≡ pmcw_tables q
same_pmcw p q range shown =
    let fit = pmcw-fit p range in
    let t0 : word_0 p ≡ word_0 q = same_table (word_of (word_0 p)) (word_0 p) (word_0 q) refl (shows_word_of (word_0 p) refl fit.0) shown.0 in
    let t1 : word_1 p ≡ word_1 q = same_table (word_of (covered_1 p)) (word_1 p) (word_1 q) refl (shows_1 p fit.1.0) shown.1.0 in
    let t2 : word_2 p ≡ word_2 q = same_table (word_of (word_2 p)) (word_2 p) (word_2 q) refl (shows_word_of (word_2 p) refl fit.1.1.0) shown.1.1.0 in
    let t3 : word_3 p ≡ word_3 q = same_table (word_of (word_3 p)) (word_3 p) (word_3 q) refl (shows_word_of (word_3 p) refl fit.1.1.1.0) shown.1.1.1.0 in
    let t4 : word_4 p ≡ word_4 q = same_table (word_of (word_4 p)) (word_4 p) (word_4 q) refl (shows_word_of (word_4 p) refl fit.1.1.1.1.0) shown.1.1.1.1.0 in
    let t5 : word_5 p ≡ word_5 q = same_table (word_of (word_5 p)) (word_5 p) (word_5 q) refl (shows_word_of (word_5 p) refl fit.1.1.1.1.1.0) shown.1.1.1.1.1.0 in
    let t6 : word_6 p ≡ word_6 q = same_table (word_of (covered_6 p)) (word_6 p) (word_6 q) refl (shows_6 p fit.1.1.1.1.1.1.0) shown.1.1.1.1.1.1.0 in
    cons (word_0 p) (word_0 q) _ _ t0
    (cons (word_1 p) (word_1 q) _ _ t1
    (cons (word_2 p) (word_2 q) _ _ t2
    (cons (word_3 p) (word_3 q) _ _ t3 (cons (word_4 p) (word_4 q) _ _ t4 (cons (word_5 p) (word_5 q) _ _ t5 (cons (word_6 p) (word_6 q) [] [] t6 refl))))))
