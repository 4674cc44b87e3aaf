-- One byte of a word is replaced.
use Rattle.std.proofs.Common.{◌≡◌, ℕ, zero, suc, ◌+◌, ◌*◌, ◌^◌, ◌<◌, ◌≤◌, ◌==◌, lit<, List, [], ◌∷◌, slice_index, refl, ap, ◌∙◌, arith}
use Rattle.std.specs.Prelude.{if◌then◌else◌}
use Rattle.std.proofs.lemmas.Nat.{and_le_r, or_lt}
use Rattle.std.specs.Int.RustNames.{bit_and, bit_or}
use Rattle.zbits.specs.Bits.{field_of}
use Rattle.zbits.proofs.Flags.{field-set, field-stays}
use Rattle.schib_block.specs.Reading.{pmcw_of_words}
use Rattle.schib_block.specs.PmcwWords.{ArePmcwWords}
use Rattle.schib_block.proofs.PmcwModifying.{seven-fit}

abbrev pub with_byte : ℕ → ℕ → ℕ → ℕ
with_byte word keep set = bit_or (bit_and word keep) set

-- bytes are counted from the left
abbrev byte_at : ℕ → ℕ → ℕ
byte_at word k = field_of word (8 * k) (8 * k + 7)

-- what the bytes beside the one at an index are kept by, and where it stands
abbrev kept_by : ℕ → ℕ
kept_by zero = 16777215
kept_by (suc zero) = 4278255615
kept_by (suc (suc zero)) = 4294902015
kept_by index = 4294967040

abbrev moved_to : ℕ → ℕ → ℕ
moved_to zero byte = byte * 16777216
moved_to (suc zero) byte = byte * 65536
moved_to (suc (suc zero)) byte = byte * 256
moved_to index byte = byte

abbrev byte_put : ℕ → ℕ → ℕ → ℕ
byte_put word index byte = with_byte word (kept_by index) (moved_to index byte)

-- the byte at an index is the one that is put there, or the one that was there
abbrev IsByte : ℕ → ℕ → ℕ → ℕ → Type 0
IsByte word index k byte = byte_at (byte_put word index byte) k ≡ (if index == k then byte else byte_at word k)

each-below-4 : (P : ℕ → Type 0) → P 0 → P 1 → P 2 → P 3 → (k : ℕ) → k < 4 → P k
each-below-4 P a b c d zero below = a
each-below-4 P a b c d (suc zero) below = b
each-below-4 P a b c d (suc (suc zero)) below = c
each-below-4 P a b c d (suc (suc (suc zero))) below = d
each-below-4 P a b c d (suc (suc (suc (suc k)))) below = absurd (omega (arith, below))

byte-is : (word index k byte : ℕ) → index < 4 → k < 4 → byte < 256 → IsByte word index k byte
byte-is word index k byte within inside small =
    each-below-4 (λ index. IsByte word index k byte)
    (each-below-4 (λ k. IsByte word 0 k byte)
    (field-set word 16777215 (byte * 16777216) 0 7 refl ∙ omega (arith, small))
    (field-stays word 16777215 (byte * 16777216) 8 15 refl (omega (arith, small)))
    (field-stays word 16777215 (byte * 16777216) 16 23 refl (omega (arith, small)))
    (field-stays word 16777215 (byte * 16777216) 24 31 refl (omega (arith, small)))
    k inside)
    (each-below-4 (λ k. IsByte word 1 k byte)
    (field-stays word 4278255615 (byte * 65536) 0 7 refl (omega (arith, small)))
    (field-set word 4278255615 (byte * 65536) 8 15 refl ∙ omega (arith, small))
    (field-stays word 4278255615 (byte * 65536) 16 23 refl (omega (arith, small)))
    (field-stays word 4278255615 (byte * 65536) 24 31 refl (omega (arith, small)))
    k inside)
    (each-below-4 (λ k. IsByte word 2 k byte)
    (field-stays word 4294902015 (byte * 256) 0 7 refl (omega (arith, small)))
    (field-stays word 4294902015 (byte * 256) 8 15 refl (omega (arith, small)))
    (field-set word 4294902015 (byte * 256) 16 23 refl ∙ omega (arith, small))
    (field-stays word 4294902015 (byte * 256) 24 31 refl (omega (arith, small)))
    k inside)
    (each-below-4 (λ k. IsByte word 3 k byte)
    (field-stays word 4294967040 byte 0 7 refl (omega (arith, small)))
    (field-stays word 4294967040 byte 8 15 refl (omega (arith, small)))
    (field-stays word 4294967040 byte 16 23 refl (omega (arith, small)))
    (field-set word 4294967040 byte 24 31 refl ∙ omega (arith, small))
    k inside)
    index within

-- the two bytes on the left stay where one on the right is put
left-half-stays : (word index byte : ℕ) → 2 ≤ index → index < 4 → byte < 256 → field_of (byte_put word index byte) 0 15 ≡ field_of word 0 15
left-half-stays word zero byte right within small = absurd (omega (arith, right))
left-half-stays word (suc zero) byte right within small = absurd (omega (arith, right))
left-half-stays word (suc (suc zero)) byte right within small = field-stays word 4294902015 (byte * 256) 0 15 refl (omega (arith, small))
left-half-stays word (suc (suc (suc zero))) byte right within small = field-stays word 4294967040 byte 0 15 refl (omega (arith, small))
left-half-stays word (suc (suc (suc (suc k)))) byte right within small = absurd (omega (arith, within))

-- word 2: LPM, PNOM, LPUM and PIM
pub word-2-is : (a b c d e f g index m : ℕ) → index < 4 → m < 256
    → pmcw_of_words (a ∷ b ∷ byte_put c index m ∷ d ∷ e ∷ f ∷ g ∷ [])
    ≡ record (pmcw_of_words (a ∷ b ∷ c ∷ d ∷ e ∷ f ∷ g ∷ [])) {
      logical = if index == 0 then m else field_of c 0 7;
      not_operational = if index == 1 then m else field_of c 8 15;
      last_used = if index == 2 then m else field_of c 16 23;
      installed = if index == 3 then m else field_of c 24 31;
    }
word-2-is a b c d e f g index m within small =
    let x = byte_put c index m in
    let p = pmcw_of_words (a ∷ b ∷ c ∷ d ∷ e ∷ f ∷ g ∷ []) in
    let at : (k : ℕ) → ℕ = λ k. if index == k then m else byte_at c k in
    ap (λ (n : ℕ). record p { logical = n; not_operational = field_of x 8 15; last_used = field_of x 16 23; installed = field_of x 24 31 }) (byte-is c index 0 m within (lit< tt) small)
    ∙ ap (λ (n : ℕ). record p { logical = at 0; not_operational = n; last_used = field_of x 16 23; installed = field_of x 24 31 }) (byte-is c index 1 m within (lit< tt) small)
    ∙ ap (λ (n : ℕ). record p { logical = at 0; not_operational = at 1; last_used = n; installed = field_of x 24 31 }) (byte-is c index 2 m within (lit< tt) small)
    ∙ ap (λ (n : ℕ). record p { logical = at 0; not_operational = at 1; last_used = at 2; installed = n }) (byte-is c index 3 m within (lit< tt) small)

-- word 3: the index of the measurement block, POM and PAM
pub word-3-is : (a b c d e f g index m : ℕ) → 2 ≤ index → index < 4 → m < 256
    → pmcw_of_words (a ∷ b ∷ c ∷ byte_put d index m ∷ e ∷ f ∷ g ∷ [])
    ≡ record (pmcw_of_words (a ∷ b ∷ c ∷ d ∷ e ∷ f ∷ g ∷ [])) {
      operational = if index == 2 then m else field_of d 16 23;
      available = if index == 3 then m else field_of d 24 31;
    }
word-3-is a b c d e f g index m right within small =
    let x = byte_put d index m in
    let p = pmcw_of_words (a ∷ b ∷ c ∷ d ∷ e ∷ f ∷ g ∷ []) in
    let at : (k : ℕ) → ℕ = λ k. if index == k then m else byte_at d k in
    ap (λ (n : ℕ). record p { measurement_block = n; operational = field_of x 16 23; available = field_of x 24 31 }) (left-half-stays d index m right within small)
    ∙ ap (λ (n : ℕ). record p { operational = n; available = field_of x 24 31 }) (byte-is d index 2 m within (lit< tt) small)
    ∙ ap (λ (n : ℕ). record p { operational = at 2; available = n }) (byte-is d index 3 m within (lit< tt) small)

-- words of which the third is another
pub third-are : (w : List ℕ) (x : ℕ) → ArePmcwWords w → x < 2 ^ 32
    → ArePmcwWords (slice_index w 0 ∷ slice_index w 1 ∷ x ∷ slice_index w 3 ∷ slice_index w 4 ∷ slice_index w 5 ∷ slice_index w 6 ∷ [])
third-are w x are fits = record {
  seven = refl;
  fit = seven-fit (slice_index w 0) (slice_index w 1) x (slice_index w 3) (slice_index w 4) (slice_index w 5) (slice_index w 6) (are.fit 0) (are.fit 1) fits (are.fit 3) (are.fit 4) (are.fit 5) (are.fit 6);
  front = are.front;
  between = are.between;
  last = are.last;
}

pub with_byte-lt : (word keep set : ℕ) → keep < 2 ^ 32 → set < 2 ^ 32 → with_byte word keep set < 2 ^ 32
with_byte-lt word keep set x y = or_lt 32 (bit_and word keep) set (omega (arith, x, and_le_r word keep)) y
