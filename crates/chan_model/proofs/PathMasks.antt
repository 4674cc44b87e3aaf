-- What masks do to sets of paths.
use Rattle.std.proofs.Common.{◌≡◌, ℕ, zero, suc, ◌+◌, ◌-◌, ◌/◌, ◌^◌, ◌<◌, ◌==◌, Bool, true, false, not, ◌&&◌, ◌||◌, refl, sym, ap, ◌∙◌, arith, lit<}
use Rattle.std.specs.Prelude.{if◌then◌else◌, nat_lt, slice_set}
use Rattle.std.specs.Int.{bit_at, w8, bit_not}
use Rattle.std.specs.Int.RustNames.{bit_and, bit_or}
use Rattle.std.proofs.lemmas.Nat.{and_mask}
use Rattle.std.proofs.Math.Nat.{mod-eq_of_lt}
use Rattle.std.proofs.lemmas.Nat.Bits.{bit_at_not, bit_at-lt}
use Rattle.zbits.specs.Flags.{flag_of, flags_of, picked, some_of}
use Rattle.zbits.proofs.Flags.{flag-left, flag-marked, none, not-not}
use Rattle.chan_model.specs.PathSets.{paths_of_mask, each_path, in_both, is_any, is_member, joined, without}

pub each-below-8 : (P : ℕ → Type 0) → P 0 → P 1 → P 2 → P 3 → P 4 → P 5 → P 6 → P 7 → (k : ℕ) → k < 8 → P k
each-below-8 P a b c d e f g h zero below = a
each-below-8 P a b c d e f g h (suc zero) below = b
each-below-8 P a b c d e f g h (suc (suc zero)) below = c
each-below-8 P a b c d e f g h (suc (suc (suc zero))) below = d
each-below-8 P a b c d e f g h (suc (suc (suc (suc zero)))) below = e
each-below-8 P a b c d e f g h (suc (suc (suc (suc (suc zero))))) below = f
each-below-8 P a b c d e f g h (suc (suc (suc (suc (suc (suc zero)))))) below = g
each-below-8 P a b c d e f g h (suc (suc (suc (suc (suc (suc (suc zero))))))) below = h
each-below-8 P a b c d e f g h (suc (suc (suc (suc (suc (suc (suc (suc k)))))))) below = absurd (omega (arith, below))

-- sets that are made path by path
same-each : (f g : ℕ → Bool) → ((k : ℕ) → k < 8 → f k ≡ g k) → each_path f ≡ each_path g
same-each f g h =
    let a : f 0 ≡ g 0 = h 0 (lit< tt) in
    let b : f 1 ≡ g 1 = h 1 (lit< tt) in
    let c : f 2 ≡ g 2 = h 2 (lit< tt) in
    let d : f 3 ≡ g 3 = h 3 (lit< tt) in
    let e : f 4 ≡ g 4 = h 4 (lit< tt) in
    let i : f 5 ≡ g 5 = h 5 (lit< tt) in
    let j : f 6 ≡ g 6 = h 6 (lit< tt) in
    let k : f 7 ≡ g 7 = h 7 (lit< tt) in
    cc

and-if : (w k : Bool) → (if k then w else false) ≡ (w && k)
and-if true true = refl
and-if true false = refl
and-if false true = refl
and-if false false = refl

or-if : (w k : Bool) → (if k then true else w) ≡ (w || k)
or-if true true = refl
or-if true false = refl
or-if false true = refl
or-if false false = refl

pub both-are : (a b : ℕ) → paths_of_mask (bit_and a b) ≡ in_both (paths_of_mask a) (paths_of_mask b)
both-are a b =
    same-each (λ k. flag_of (bit_and a b) (24 + k)) (λ k. flag_of a (24 + k) && flag_of b (24 + k))
    (λ k small. flag-left a b (24 + k) ∙ and-if (flag_of a (24 + k)) (flag_of b (24 + k)))

pub joined-are : (a b : ℕ) → paths_of_mask (bit_or a b) ≡ joined (paths_of_mask a) (paths_of_mask b)
joined-are a b =
    same-each (λ k. flag_of (bit_or a b) (24 + k)) (λ k. flag_of a (24 + k) || flag_of b (24 + k))
    (λ k small. flag-marked a b (24 + k) ∙ or-if (flag_of a (24 + k)) (flag_of b (24 + k)))

turned : (n : ℕ) → n < 2 → (1 - n == 1) ≡ not (n == 1)
turned zero h = refl
turned (suc zero) h = refl
turned (suc (suc n)) h = absurd (omega (arith, h))

not-flag : (b k : ℕ) → b < 256 → k < 8 → flag_of (bit_not w8 b) (24 + k) ≡ not (flag_of b (24 + k))
not-flag b k fits small =
    let i : 31 - (24 + k) < 8 = omega (arith, small) in
    ap (λ (n : ℕ). n == 1) (bit_at_not w8 b (31 - (24 + k)) fits i) ∙ turned (bit_at b (31 - (24 + k))) (bit_at-lt b (31 - (24 + k)))

pub without-are : (a b : ℕ) → b < 256 → paths_of_mask (bit_and a (bit_not w8 b)) ≡ without (paths_of_mask a) (paths_of_mask b)
without-are a b fits =
    same-each (λ k. flag_of (bit_and a (bit_not w8 b)) (24 + k)) (λ k. flag_of a (24 + k) && not (flag_of b (24 + k)))
    (λ k small. flag-left a (bit_not w8 b) (24 + k) ∙ and-if (flag_of a (24 + k)) (flag_of (bit_not w8 b) (24 + k)) ∙ ap (λ (t : Bool). flag_of a (24 + k) && t) (not-flag b k fits small))

-- one path
pub has-is : (m path : ℕ) → path < 8 → not (bit_and m (128 / 2 ^ path) == 0) ≡ is_member (paths_of_mask m) path
has-is m path small =
    let one : (mask bit : ℕ) → mask < 256 → (bit_and m mask == 0) ≡ not (some_of (picked mask 24 (flags_of m 24 8))) = λ mask bit fits. none m mask 24 8 refl fits in
    each-below-8 (λ k. not (bit_and m (128 / 2 ^ k) == 0) ≡ is_member (paths_of_mask m) k)
    (ap not (one 128 24 (lit< tt)) ∙ not-not (flag_of m 24))
    (ap not (one 64 25 (lit< tt)) ∙ not-not (flag_of m 25))
    (ap not (one 32 26 (lit< tt)) ∙ not-not (flag_of m 26))
    (ap not (one 16 27 (lit< tt)) ∙ not-not (flag_of m 27))
    (ap not (one 8 28 (lit< tt)) ∙ not-not (flag_of m 28))
    (ap not (one 4 29 (lit< tt)) ∙ not-not (flag_of m 29))
    (ap not (one 2 30 (lit< tt)) ∙ not-not (flag_of m 30))
    (ap not (one 1 31 (lit< tt)) ∙ not-not (flag_of m 31))
    path small

all-marked : (m s : ℕ) → paths_of_mask (bit_or m s) ≡ each_path (λ k. if flag_of s (24 + k) then true else flag_of m (24 + k))
all-marked m s = same-each (λ k. flag_of (bit_or m s) (24 + k)) (λ k. if flag_of s (24 + k) then true else flag_of m (24 + k)) (λ k small. flag-marked m s (24 + k))

all-left : (m s : ℕ) → paths_of_mask (bit_and m s) ≡ each_path (λ k. if flag_of s (24 + k) then flag_of m (24 + k) else false)
all-left m s = same-each (λ k. flag_of (bit_and m s) (24 + k)) (λ k. if flag_of s (24 + k) then flag_of m (24 + k) else false) (λ k small. flag-left m s (24 + k))

pub added-is : (m path : ℕ) → path < 8 → paths_of_mask (bit_or m (128 / 2 ^ path)) ≡ slice_set (paths_of_mask m) path true
added-is m path small =
    each-below-8 (λ k. paths_of_mask (bit_or m (128 / 2 ^ k)) ≡ slice_set (paths_of_mask m) k true)
    (all-marked m 128) (all-marked m 64) (all-marked m 32) (all-marked m 16) (all-marked m 8) (all-marked m 4) (all-marked m 2) (all-marked m 1) path small

pub removed-is : (m path : ℕ) → path < 8 → paths_of_mask (bit_and m (bit_not w8 (128 / 2 ^ path))) ≡ slice_set (paths_of_mask m) path false
removed-is m path small =
    each-below-8 (λ k. paths_of_mask (bit_and m (bit_not w8 (128 / 2 ^ k))) ≡ slice_set (paths_of_mask m) k false)
    (all-left m 127) (all-left m 191) (all-left m 223) (all-left m 239) (all-left m 247) (all-left m 251) (all-left m 253) (all-left m 254) path small

whole : (m : ℕ) → m < 256 → bit_and m 255 ≡ m
whole m fits = and_mask m 8 ∙ mod-eq_of_lt fits

pub any-is : (m : ℕ) → m < 256 → not (m == 0) ≡ is_any (paths_of_mask m)
any-is m fits = ap not (ap (λ (n : ℕ). n == 0) (sym (whole m fits)) ∙ none m 255 24 8 refl (lit< tt)) ∙ not-not (is_any (paths_of_mask m))

-- the paths below a number, and one path
pub below-is : (count : ℕ) → count < 8 → paths_of_mask (255 - 255 / 2 ^ count) ≡ each_path (λ path. nat_lt path count)
below-is count small = each-below-8 (λ k. paths_of_mask (255 - 255 / 2 ^ k) ≡ each_path (λ path. nat_lt path k)) refl refl refl refl refl refl refl refl count small

pub one-is : (path : ℕ) → path < 8 → paths_of_mask (128 / 2 ^ path) ≡ each_path (λ other. path == other)
one-is path small = each-below-8 (λ k. paths_of_mask (128 / 2 ^ k) ≡ each_path (λ other. k == other)) refl refl refl refl refl refl refl refl path small
