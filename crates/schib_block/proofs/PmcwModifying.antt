-- What MODIFY SUBCHANNEL leaves of the words, and tests of them under masks.
use Rattle.std.proofs.Common.{◌≡◌, ℕ, zero, suc, ◌+◌, ◌-◌, ◌/◌, ◌^◌, ◌<◌, ◌==◌, Bool, true, false, not, ◌||◌, List, [], ◌∷◌, slice_index, refl, ap, ◌∙◌, arith, subst, lit<}
use Rattle.std.specs.Prelude.{slice_index_or}
use Rattle.std.proofs.Math.Bridge.{le_prop}
use Rattle.std.specs.Int.RustNames.{bit_and, bit_or}
use Rattle.std.proofs.lemmas.Nat.{and_le_r, or_lt, mod_below}
use Rattle.zbits.specs.Bits.{bit_of, field_of, weight}
use Rattle.zbits.specs.Flags.{flags_of, picked, some_of}
use Rattle.zbits.proofs.Flags.{field-kept, field-taken, none, not-not}
use Rattle.schib_block.specs.declared.pmcw.Pmcw.{Pmcw}
use Rattle.schib_block.specs.Modify.{modified, sense_left}
use Rattle.schib_block.specs.Reading.{flag_of, limit_mode-lt, measurement_mode-lt, pmcw_of_words, subclass-lt}
use Rattle.schib_block.specs.PmcwWords.{ArePmcwWords}

-- two words under masks
abbrev pub mixed : ℕ → ℕ → ℕ → ℕ → ℕ
mixed keep take a b = bit_or (bit_and a keep) (bit_and b take)

-- the last word is the one that is left
abbrev pub modified_words : List ℕ → List ℕ → ℕ → List ℕ
modified_words w g last =
    slice_index g 0
    ∷ mixed 3346792447 948174848 (slice_index w 1) (slice_index g 1)
    ∷ mixed 16777215 4278190080 (slice_index w 2) (slice_index g 2)
    ∷ mixed 4294902015 65280 (slice_index w 3) (slice_index g 3)
    ∷ slice_index w 4 ∷ slice_index w 5 ∷ last ∷ []

mixed-lt : (keep take a b : ℕ) → keep < 2 ^ 32 → take < 2 ^ 32 → mixed keep take a b < 2 ^ 32
mixed-lt keep take a b x y = or_lt 32 (bit_and a keep) (bit_and b take) (omega (arith, x, and_le_r a keep)) (omega (arith, y, and_le_r b take))

pub seven-fit : (a b c d e f g : ℕ) → a < 2 ^ 32 → b < 2 ^ 32 → c < 2 ^ 32 → d < 2 ^ 32 → e < 2 ^ 32 → f < 2 ^ 32 → g < 2 ^ 32
    → (index : ℕ) → slice_index (a ∷ b ∷ c ∷ d ∷ e ∷ f ∷ g ∷ []) index < 2 ^ 32
seven-fit a b c d e f g p q r s t u v zero = p
seven-fit a b c d e f g p q r s t u v (suc zero) = q
seven-fit a b c d e f g p q r s t u v (suc (suc zero)) = r
seven-fit a b c d e f g p q r s t u v (suc (suc (suc zero))) = s
seven-fit a b c d e f g p q r s t u v (suc (suc (suc (suc zero)))) = t
seven-fit a b c d e f g p q r s t u v (suc (suc (suc (suc (suc zero))))) = u
seven-fit a b c d e f g p q r s t u v (suc (suc (suc (suc (suc (suc zero)))))) = v
seven-fit a b c d e f g p q r s t u v (suc (suc (suc (suc (suc (suc (suc index))))))) = lit< tt

pub modified-are : (w g : List ℕ) (last : ℕ) → ArePmcwWords w → ((index : ℕ) → slice_index g index < 2 ^ 32) → last < 2 ^ 32 → field_of last 0 30 ≡ field_of (slice_index w 6) 0 30
    → ArePmcwWords (modified_words w g last)
modified-are w g last are fit small others = record {
  seven = refl;
  fit = seven-fit (slice_index g 0) (mixed 3346792447 948174848 (slice_index w 1) (slice_index g 1)) (mixed 16777215 4278190080 (slice_index w 2) (slice_index g 2))
      (mixed 4294902015 65280 (slice_index w 3) (slice_index g 3)) (slice_index w 4) (slice_index w 5) last
      (fit 0) (mixed-lt 3346792447 948174848 (slice_index w 1) (slice_index g 1) (lit< tt) (lit< tt)) (mixed-lt 16777215 4278190080 (slice_index w 2) (slice_index g 2) (lit< tt) (lit< tt))
      (mixed-lt 4294902015 65280 (slice_index w 3) (slice_index g 3) (lit< tt) (lit< tt)) (are.fit 4) (are.fit 5) small;
  front = field-kept (slice_index w 1) (slice_index g 1) 3346792447 948174848 0 1 refl refl ∙ are.front;
  between = field-kept (slice_index w 1) (slice_index g 1) 3346792447 948174848 5 7 refl refl ∙ are.between;
  last = others ∙ are.last;
}

-- a word by its fields
abbrev pub pmcw_listed : (s : ℕ) → s < 8 → (l : ℕ) → l < 4 → (m : ℕ) → m < 4 → List Bool → List ℕ → List ℕ → Pmcw
pmcw_listed s sf l lf m mf flags numbers chpids = record {
  parameter = slice_index numbers 0;
  subclass = s;
  enabled = slice_index_or flags 0 false;
  limit_mode = l;
  measurement_mode = m;
  multipath = slice_index_or flags 1 false;
  timing = slice_index_or flags 2 false;
  valid = slice_index_or flags 3 false;
  device_number = slice_index numbers 1;
  logical = slice_index numbers 2;
  not_operational = slice_index numbers 3;
  last_used = slice_index numbers 4;
  installed = slice_index numbers 5;
  measurement_block = slice_index numbers 6;
  operational = slice_index numbers 7;
  available = slice_index numbers 8;
  chpids = chpids;
  concurrent_sense = slice_index_or flags 4 false;
  subclass_fits = sf;
  limit_fits = lf;
  measurement_fits = mf;
}

keyed : (bound : ℕ) (F : (k : ℕ) → k < bound → Pmcw) (a b : ℕ) (p : a < bound) (q : b < bound) → a ≡ b → F a p ≡ F b q
keyed bound F a b p q e = subst (λ (x : ℕ). (h : x < bound) → F a p ≡ F x h) e (λ h. ap (F a) (le_prop p h)) q

pub same-listed : (s : ℕ) (sf : s < 8) (l : ℕ) (lf : l < 4) (m : ℕ) (mf : m < 4) (flags : List Bool) (numbers chpids : List ℕ)
    (t : ℕ) (tf : t < 8) (k : ℕ) (kf : k < 4) (n : ℕ) (nf : n < 4) (others : List Bool) (counts ids : List ℕ)
    → s ≡ t → l ≡ k → m ≡ n → flags ≡ others → numbers ≡ counts → chpids ≡ ids
    → pmcw_listed s sf l lf m mf flags numbers chpids ≡ pmcw_listed t tf k kf n nf others counts ids
same-listed s sf l lf m mf flags numbers chpids t tf k kf n nf others counts ids es el em ef en ei =
    keyed 8 (λ x h. pmcw_listed x h l lf m mf flags numbers chpids) s t sf tf es
    ∙ keyed 4 (λ x h. pmcw_listed t tf x h m mf flags numbers chpids) l k lf kf el
    ∙ keyed 4 (λ x h. pmcw_listed t tf k kf x h flags numbers chpids) m n mf nf em
    ∙ ap (λ (x : List Bool). pmcw_listed t tf k kf n nf x numbers chpids) ef
    ∙ ap (λ (x : List ℕ). pmcw_listed t tf k kf n nf others x chpids) en
    ∙ ap (λ (x : List ℕ). pmcw_listed t tf k kf n nf others counts x) ei

-- MODIFY SUBCHANNEL
pub modified-is : (w g : List ℕ) (last : ℕ) (takes_sense : Bool) → flag_of last 31 ≡ sense_left takes_sense (flag_of (slice_index w 6) 31) (flag_of (slice_index g 6) 31)
    → pmcw_of_words (modified_words w g last) ≡ modified takes_sense (pmcw_of_words w) (pmcw_of_words g)
modified-is w g last takes_sense left =
    let a = slice_index w 1 in
    let b = slice_index g 1 in
    let x = mixed 3346792447 948174848 a b in
    let kept : (first last : ℕ) → field_of 3346792447 first last ≡ 2 ^ (last + 1 - first) - 1 → field_of 948174848 first last ≡ 0 → field_of x first last ≡ field_of a first last =
    field-kept a b 3346792447 948174848 in
    let got : (first last : ℕ) → field_of 3346792447 first last ≡ 0 → field_of 948174848 first last ≡ 2 ^ (last + 1 - first) - 1 → field_of x first last ≡ field_of b first last =
    field-taken a b 3346792447 948174848 in
    let c = slice_index w 2 in
    let d = slice_index g 2 in
    let y = mixed 16777215 4278190080 c d in
    let e = slice_index w 3 in
    let f = slice_index g 3 in
    let z = mixed 4294902015 65280 e f in
    let enabled : field_of x 8 8 ≡ field_of b 8 8 = got 8 8 refl refl in
    let multipath : field_of x 13 13 ≡ field_of b 13 13 = got 13 13 refl refl in
    let timing : field_of x 14 14 ≡ field_of a 14 14 = kept 14 14 refl refl in
    let valid : field_of x 15 15 ≡ field_of a 15 15 = kept 15 15 refl refl in
    let device : field_of x 16 31 ≡ field_of a 16 31 = kept 16 31 refl refl in
    let logical : field_of y 0 7 ≡ field_of d 0 7 = field-taken c d 16777215 4278190080 0 7 refl refl in
    let not_operational : field_of y 8 15 ≡ field_of c 8 15 = field-kept c d 16777215 4278190080 8 15 refl refl in
    let last_used : field_of y 16 23 ≡ field_of c 16 23 = field-kept c d 16777215 4278190080 16 23 refl refl in
    let installed : field_of y 24 31 ≡ field_of c 24 31 = field-kept c d 16777215 4278190080 24 31 refl refl in
    let block : field_of z 0 15 ≡ field_of e 0 15 = field-kept e f 4294902015 65280 0 15 refl refl in
    let operational : field_of z 16 23 ≡ field_of f 16 23 = field-taken e f 4294902015 65280 16 23 refl refl in
    let available : field_of z 24 31 ≡ field_of e 24 31 = field-kept e f 4294902015 65280 24 31 refl refl in
    let shown = flag_of last 31 in
    let sense = sense_left takes_sense (flag_of (slice_index w 6) 31) (flag_of (slice_index g 6) 31) in
    let ids = pmcw_of_words w in
    let flags : flag_of x 8 ∷ flag_of x 13 ∷ flag_of x 14 ∷ flag_of x 15 ∷ shown ∷ [] ≡ flag_of b 8 ∷ flag_of b 13 ∷ flag_of a 14 ∷ flag_of a 15 ∷ sense ∷ [] = cc in
    let numbers : slice_index g 0 ∷ field_of x 16 31 ∷ field_of y 0 7 ∷ field_of y 8 15 ∷ field_of y 16 23 ∷ field_of y 24 31 ∷ field_of z 0 15 ∷ field_of z 16 23 ∷ field_of z 24 31 ∷ []
    ≡ slice_index g 0 ∷ field_of a 16 31 ∷ field_of d 0 7 ∷ field_of c 8 15 ∷ field_of c 16 23 ∷ field_of c 24 31 ∷ field_of e 0 15 ∷ field_of f 16 23 ∷ field_of e 24 31 ∷ [] = cc in
    same-listed (field_of x 2 4) (subclass-lt x) (field_of x 9 10) (limit_mode-lt x) (field_of x 11 12) (measurement_mode-lt x)
    (flag_of x 8 ∷ flag_of x 13 ∷ flag_of x 14 ∷ flag_of x 15 ∷ shown ∷ [])
    (slice_index g 0 ∷ field_of x 16 31 ∷ field_of y 0 7 ∷ field_of y 8 15 ∷ field_of y 16 23 ∷ field_of y 24 31 ∷ field_of z 0 15 ∷ field_of z 16 23 ∷ field_of z 24 31 ∷ []) ids.chpids
    (field_of b 2 4) (subclass-lt b) (field_of a 9 10) (limit_mode-lt a) (field_of a 11 12) (measurement_mode-lt a)
    (flag_of b 8 ∷ flag_of b 13 ∷ flag_of a 14 ∷ flag_of a 15 ∷ sense ∷ [])
    (slice_index g 0 ∷ field_of a 16 31 ∷ field_of d 0 7 ∷ field_of c 8 15 ∷ field_of c 16 23 ∷ field_of c 24 31 ∷ field_of e 0 15 ∷ field_of f 16 23 ∷ field_of e 24 31 ∷ []) ids.chpids
    (got 2 4 refl refl) (kept 9 10 refl refl) (kept 11 12 refl refl) flags numbers refl

-- tests under masks
pub enabled-is : (word : ℕ) → not (bit_and word 8388608 == 0) ≡ flag_of word 8
enabled-is word = ap not (none word 8388608 8 24 refl (lit< tt)) ∙ not-not (flag_of word 8)

pub multipath-is : (word : ℕ) → not (bit_and word 262144 == 0) ≡ flag_of word 13
multipath-is word = ap not (none word 262144 13 19 refl (lit< tt)) ∙ not-not (flag_of word 13)

pair-clear : (word : ℕ) → field_of word 9 10 ≡ 0 → field_of word 11 12 ≡ 0 → some_of (picked 7864320 9 (flags_of word 9 23)) ≡ false
pair-clear word a b =
    let f9 : bit_of word 9 ≡ 0 = omega (arith, a) in
    let f10 : bit_of word 10 ≡ 0 = omega (arith, a) in
    let f11 : bit_of word 11 ≡ 0 = omega (arith, b) in
    let f12 : bit_of word 12 ≡ 0 = omega (arith, b) in
    let g9 : (bit_of word 9 == 1) ≡ false = ap (λ (n : ℕ). n == 1) f9 in
    let g10 : (bit_of word 10 == 1) ≡ false = ap (λ (n : ℕ). n == 1) f10 in
    let g11 : (bit_of word 11 == 1) ≡ false = ap (λ (n : ℕ). n == 1) f11 in
    let g12 : (bit_of word 12 == 1) ≡ false = ap (λ (n : ℕ). n == 1) f12 in
    cc

not-one : (n : ℕ) → n < 2 → (n == 1) ≡ false → n ≡ 0
not-one zero h e = refl
not-one (suc zero) h e = cc
not-one (suc (suc n)) h e = absurd (omega (arith, h))

first-false : (a b : Bool) → (a || b) ≡ false → a ≡ false
first-false true b h = h
first-false false b h = refl

second-false : (a b : Bool) → (a || b) ≡ false → b ≡ false
second-false true b h = cc
second-false false b h = h

clear-pair : (word : ℕ) → some_of (picked 7864320 9 (flags_of word 9 23)) ≡ false → (field_of word 9 10 ≡ 0) × (field_of word 11 12 ≡ 0)
clear-pair word h =
    let b9 = bit_of word 9 == 1 in
    let b10 = bit_of word 10 == 1 in
    let b11 = bit_of word 11 == 1 in
    let b12 = bit_of word 12 == 1 in
    let t10 : (b10 || (b11 || b12)) ≡ false = second-false b9 (b10 || (b11 || b12)) h in
    let t11 : (b11 || b12) ≡ false = second-false b10 (b11 || b12) t10 in
    let z9 : bit_of word 9 ≡ 0 = not-one (bit_of word 9) (mod_below (word / weight 9) 2 (lit< tt)) (first-false b9 (b10 || (b11 || b12)) h) in
    let z10 : bit_of word 10 ≡ 0 = not-one (bit_of word 10) (mod_below (word / weight 10) 2 (lit< tt)) (first-false b10 (b11 || b12) t10) in
    let z11 : bit_of word 11 ≡ 0 = not-one (bit_of word 11) (mod_below (word / weight 11) 2 (lit< tt)) (first-false b11 b12 t11) in
    let z12 : bit_of word 12 ≡ 0 = not-one (bit_of word 12) (mod_below (word / weight 12) 2 (lit< tt)) (second-false b11 b12 t11) in
    (omega (arith, z9, z10), omega (arith, z11, z12))

not-is : (a b : Bool) → a ≡ not b → a ≡ true → b ≡ false
not-is a true h e = cc
not-is a false h e = refl

pub allowed-is : (word : ℕ) → ((bit_and word 7864320 == 0) ≡ true → (field_of word 9 10 ≡ 0) × (field_of word 11 12 ≡ 0))
    × ((field_of word 9 10 ≡ 0) × (field_of word 11 12 ≡ 0) → (bit_and word 7864320 == 0) ≡ true)
allowed-is word =
    let test : (bit_and word 7864320 == 0) ≡ not (some_of (picked 7864320 9 (flags_of word 9 23))) = none word 7864320 9 23 refl (lit< tt) in (
      λ h. clear-pair word (not-is (bit_and word 7864320 == 0) (some_of (picked 7864320 9 (flags_of word 9 23))) test h),
      λ h. test ∙ ap not (pair-clear word h.0 h.1),
    )
