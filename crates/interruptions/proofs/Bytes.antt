-- The bits of the summary, one for each subclass.
use Rattle.std.proofs.Common.{◌≡◌, refl, sym, ◌∙◌, ap, subst, ℕ, suc, zero, ◌+◌, ◌-◌, ◌*◌, ◌/◌, ◌%◌, ◌^◌, ◌<◌, ◌≤◌, ◌==◌, min, true, false, ◌&&◌, eqb-true, arith}
use Rattle.std.specs.Prelude.{if◌then◌else◌}
use Rattle.std.specs.Int.{bit_at, bit_not, w8}
use Rattle.std.specs.Int.RustNames.{bit_and, bit_or}
use Rattle.std.proofs.lemmas.Nat.{leading_length, leading_le, mod_below, pow_pos, shr_below, shr_split}
use Rattle.std.proofs.lemmas.Nat.Bits.{bit_at-lt, bit_at_above, bit_at_and, bit_at_clear_other, bit_at_clear_same, bit_at_set_other, bit_at_set_same}
use Rattle.std.proofs.Math.Nat.{pow-suc}
use lib.Count.{count_leading_zeros}
use Rattle.interruptions.proofs.Members.{apart}
use Rattle.interruptions.specs.Indices.{has_subclass}

index : (k : ℕ) → k < 8 → 31 - (24 + k) ≡ 7 - k
index k small = omega (arith, small)

pub as-bit : (byte k : ℕ) → k < 8 → has_subclass byte k ≡ (bit_at byte (7 - k) == 1)
as-bit byte k small = ap (λ (i : ℕ). bit_at byte i == 1) (index k small)

other-index : (c k : ℕ) → c < 8 → k < 8 → (c == k) ≡ false → 7 - k ≡ 7 - c → ⊥
other-index c k a b other same = apart c k other (omega (arith, a, b, same))

-- the bit of one subclass is set, or cleared
pub bit-set : (summary c k : ℕ) → c < 8 → k < 8 → has_subclass (bit_or summary (1 * 2 ^ (7 - c) % 2 ^ 8)) k ≡ (if c == k then true else has_subclass summary k)
bit-set summary c k a b =
    as-bit (bit_or summary (1 * 2 ^ (7 - c) % 2 ^ 8)) k b
    ∙ (elim (c == k) as (λ t. c == k ≡ t → (bit_at (bit_or summary (1 * 2 ^ (7 - c) % 2 ^ 8)) (7 - k) == 1) ≡ (if t then true else has_subclass summary k)) [
      | true ↦ λ same. ap (λ (j : ℕ). bit_at (bit_or summary (1 * 2 ^ (7 - c) % 2 ^ 8)) (7 - j) == 1) (sym (eqb-true c k same)) ∙ ap (λ (n : ℕ). n == 1) (bit_at_set_same w8 summary (7 - c) (omega arith))
      | false ↦ λ other. ap (λ (n : ℕ). n == 1) (bit_at_set_other w8 summary (7 - c) (omega arith) (7 - k) (other-index c k a b other)) ∙ sym (as-bit summary k b)
    ] refl)

pub bit-cleared : (summary c k : ℕ) → c < 8 → k < 8 → has_subclass (bit_and summary (bit_not w8 (1 * 2 ^ (7 - c) % 2 ^ 8))) k ≡ (if c == k then false else has_subclass summary k)
bit-cleared summary c k a b =
    let left = bit_and summary (bit_not w8 (1 * 2 ^ (7 - c) % 2 ^ 8)) in
    as-bit left k b
    ∙ (elim (c == k) as (λ t. c == k ≡ t → (bit_at left (7 - k) == 1) ≡ (if t then false else has_subclass summary k)) [
      | true ↦ λ same. ap (λ (j : ℕ). bit_at left (7 - j) == 1) (sym (eqb-true c k same)) ∙ ap (λ (n : ℕ). n == 1) (bit_at_clear_same w8 summary (7 - c) (omega arith))
      | false ↦ λ other. ap (λ (n : ℕ). n == 1) (bit_at_clear_other w8 summary (7 - c) (omega arith) (7 - k) (omega arith) (other-index c k a b other)) ∙ sym (as-bit summary k b)
    ] refl)

-- no bit of 0
pub no-bit : (k : ℕ) → k < 8 → has_subclass 0 k ≡ false
no-bit k small = as-bit 0 k small ∙ ap (λ (n : ℕ). n == 1) (bit_at_above 0 0 (7 - k) (omega arith) (omega arith))

-- a bit of two bytes
two-bits : (x y : ℕ) → x < 2 → y < 2 → (min x y == 1) ≡ ((x == 1) && (y == 1))
two-bits zero zero a b = refl
two-bits zero (suc zero) a b = refl
two-bits (suc zero) zero a b = refl
two-bits (suc zero) (suc zero) a b = refl
two-bits (suc (suc x)) y a b = absurd (omega (arith, a))
two-bits zero (suc (suc y)) a b = absurd (omega (arith, b))
two-bits (suc zero) (suc (suc y)) a b = absurd (omega (arith, b))

pub both-bits : (x y k : ℕ) → has_subclass (bit_and x y) k ≡ (has_subclass x k && has_subclass y k)
both-bits x y k =
    let i = 31 - (24 + k) in
    ap (λ (n : ℕ). n == 1) (bit_at_and x y i) ∙ two-bits (bit_at x i) (bit_at y i) (bit_at-lt x i) (bit_at-lt y i)

-- the leftmost bit that a byte has
pub record IsLeftmost (byte c : ℕ) : Type 0 where
  pub most : c ≤ 8
  pub before : (k : ℕ) → k < 8 → k < c → has_subclass byte k ≡ false
  pub own : c < 8 → has_subclass byte c ≡ true

top-bit : (byte j : ℕ) → byte < 2 ^ suc j → 2 ^ suc j ≤ 2 * byte + 1 → bit_at byte j ≡ 1
top-bit byte j less more =
    let q = byte / 2 ^ j in
    let further : suc j ≡ 1 + j = omega arith in
    let few : q < 2 ^ 1 = shr_below byte 1 j (subst (λ (n : ℕ). byte < 2 ^ n) further less) in
    let some : q ≡ 0 → ⊥ = λ e.
    let all : 0 * 2 ^ j + byte % 2 ^ j ≡ byte = ap (λ (n : ℕ). n * 2 ^ j + byte % 2 ^ j) (sym e) ∙ shr_split byte j in
    omega (arith, all, mod_below byte (2 ^ j) (pow_pos j), pow-suc 2 j, more) in
    let one : q ≡ 1 = omega (arith, few, some) in
    ap (λ (n : ℕ). n % 2) one

pub leftmost : (byte : ℕ) → byte < 2 ^ 8 → IsLeftmost byte (count_leading_zeros 8 byte)
leftmost byte fits =
    let c = count_leading_zeros 8 byte in
    let l = leading_length 8 byte fits in
    let m = l.0 in
    record {
      most = leading_le 8 byte;
      before = λ k small less. as-bit byte k small ∙ ap (λ (n : ℕ). n == 1) (bit_at_above byte m (7 - k) l.2 (omega (arith, small, less, l.1)));
      own = λ small.
          let e : m ≡ suc (7 - c) = omega (arith, small, l.1) in
          as-bit byte c small
          ∙ ap (λ (n : ℕ). n == 1) (top-bit byte (7 - c) (subst (λ (n : ℕ). byte < 2 ^ n) e l.2) (subst (λ (n : ℕ). 2 ^ n ≤ 2 * byte + 1) e l.3));
    }
