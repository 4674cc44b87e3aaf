-- Circles of two tables in which a number is put into one, or taken out of one.
use Rattle.std.proofs.Common.{◌≡◌, sym, ◌∙◌, ap, refl, subst, ℕ, ◌<◌, true, false, List, [], ◌∷◌, ◌++◌, length, nat_eq, eqb-true, arith, slice_index}
use Rattle.std.specs.Prelude.{if◌then◌else◌, slice_set}
use Rattle.std.specs.List.{IsDistinct}
use Rattle.std.proofs.lemmas.List.{length-set, get_or-set_same, get_or-set_other}
use Rattle.interruptions.specs.Circles.{AreLinked, Circles, former_of, next_of, pushed, taken}
use Rattle.interruptions.specs.Paths.{IsCircle, IsPath, IsPut, IsTaken, has, without}
use Rattle.interruptions.proofs.Members.{apart, first-false, flipped, gone, head-apart, neither, not-own, second-false}
use Rattle.interruptions.proofs.Walks.{changed, changed-at, frame-former, frame-next, former-next, last-is, last-next, next-former, not-source, not-target, pushed-path, same-path, taken-path}

-- the tables written with numbers that were read before
abbrev pub put_after : Circles → ℕ → ℕ → ℕ → Circles
put_after c at number last = record { next = slice_set (slice_set c.next last number) number at; former = slice_set (slice_set c.former number last) at number }

abbrev pub joined_over : Circles → ℕ → ℕ → ℕ → Circles
joined_over c number next former = record { next = slice_set (slice_set c.next former next) number number; former = slice_set (slice_set c.former next former) number number }

-- an item of a list that is changed at one index, and at two
set-changed : (xs : List ℕ) (i v k : ℕ) → i < length xs → slice_index (slice_set xs i v) k ≡ changed (slice_index xs) i v k
set-changed xs i v k below =
    elim (nat_eq i k) as (λ t. nat_eq i k ≡ t → slice_index (slice_set xs i v) k ≡ (if t then v else slice_index xs k)) [
      | true ↦ λ same. ap (slice_index (slice_set xs i v)) (sym (eqb-true i k same)) ∙ get_or-set_same xs i v 0 below
      | false ↦ λ other. get_or-set_other xs i k v 0 (λ e. apart i k other (sym e))
    ] refl

set-twice : (xs : List ℕ) (i v j w k : ℕ) → i < length xs → j < length xs → slice_index (slice_set (slice_set xs i v) j w) k ≡ changed (changed (slice_index xs) i v) j w k
set-twice xs i v j w k a b =
    set-changed (slice_set xs i v) j w k (subst (λ (n : ℕ). j < n) (sym (length-set xs i v)) b)
    ∙ ap (λ (z : ℕ). if nat_eq j k then w else z) (set-changed xs i v k a)

set-twice-long : (xs : List ℕ) (i v j w : ℕ) → length (slice_set (slice_set xs i v) j w) ≡ length xs
set-twice-long xs i v j w = length-set (slice_set xs i v) j w ∙ length-set xs i v

module _ (c : Circles) (l : AreLinked c.next c.former) where
  abbrev n : ℕ → ℕ
  n k = next_of c k

  abbrev f : ℕ → ℕ
  f k = former_of c k

  -- a number is put before another
  module _ (at p : ℕ) (a : at < length c.next) (b : p < length c.next) where
    put-path : (k : ℕ) (xs : List ℕ) → IsPath (changed (changed n (f at) p) p at) (changed (changed f p (f at)) at p) k xs k → IsCircle (pushed c at p) k xs
    put-path k xs h =
        same-path (changed (changed n (f at) p) p at) (changed (changed f p (f at)) at p) (next_of (pushed c at p)) (former_of (pushed c at p)) k xs k
        (λ q. set-twice c.next (f at) p p at q (l.former at a) b) (λ q. set-twice c.former p (f at) at p q (omega (arith, l.same, b)) (omega (arith, l.same, a))) h

    put-own : (xs : List ℕ) → IsCircle c at xs → IsDistinct nat_eq (at ∷ xs) → has p (at ∷ xs) ≡ false → IsCircle (pushed c at p) at (xs ++ p ∷ [])
    put-own xs h d other =
        put-path at (xs ++ p ∷ [])
        (subst (λ (z : ℕ). IsPath (changed (changed n z p) p at) (changed (changed f p z) at p) at (xs ++ p ∷ []) at) (sym (last-is n f at xs at h))
        (pushed-path n f at xs at p h d (head-apart at xs d) other (first-false (nat_eq p at) (has p xs) other)))

    put-others : (xs : List ℕ) → IsCircle c at xs → (k : ℕ) (ys : List ℕ) → IsCircle c k ys → has at (k ∷ ys) ≡ false → has p (k ∷ ys) ≡ false → IsCircle (pushed c at p) k ys
    put-others xs g k ys h far other =
        let back : n (f at) ≡ at = last-next n f at xs at g in
        let away : nat_eq at k ≡ false = first-false (nat_eq at k) (has at ys) far in
        let out : has at ys ≡ false = second-false (nat_eq at k) (has at ys) far in
        let source : has (f at) (k ∷ ys) ≡ false = not-source n f k ys k (f at) h (ap (λ (z : ℕ). has z ys) back ∙ out) (ap (λ (z : ℕ). nat_eq z k) back ∙ away) in
        let m = changed (changed n (f at) p) p at in
        put-path k ys
        (frame-former m (changed f p (f at)) k ys k at p
        (frame-former m f k ys k p (f at)
        (frame-next (changed n (f at) p) f k ys k p at (frame-next n f k ys k (f at) p h source) other)
        (second-false (nat_eq p k) (has p ys) other) (first-false (nat_eq p k) (has p ys) other))
        out away)

    pub is-put : IsPut c at p (pushed c at p)
    is-put = record { long = set-twice-long c.next (f at) p p at; own = put-own; others = put-others }

  -- a number is taken out
  module _ (p : ℕ) (b : p < length c.next) where
    -- a path without the number
    past : (k : ℕ) (ys : List ℕ) → IsPath (changed n (f p) (n p)) (changed f (n p) (f p)) k ys k → has p (k ∷ ys) ≡ false → IsCircle (taken c p) k ys
    past k ys h other =
        let m = changed (changed n (f p) (n p)) p p in
        same-path m (changed (changed f (n p) (f p)) p p) (next_of (taken c p)) (former_of (taken c p)) k ys k
        (λ q. set-twice c.next (f p) (n p) p p q (l.former p b) b) (λ q. set-twice c.former (n p) (f p) p p q (omega (arith, l.same, l.next p b)) (omega (arith, l.same, b)))
        (frame-former m (changed f (n p) (f p)) k ys k p p
        (frame-next (changed n (f p) (n p)) (changed f (n p) (f p)) k ys k p p h other)
        (second-false (nat_eq p k) (has p ys) other) (first-false (nat_eq p k) (has p ys) other))

    taken-own : (at : ℕ) (xs : List ℕ) → IsCircle c at xs → IsDistinct nat_eq (at ∷ xs) → has p xs ≡ true → IsCircle (taken c p) at (without p xs)
    taken-own at xs h d k =
        past at (without p xs) (taken-path n f at xs at p h d (head-apart at xs d) k)
        (neither (flipped at p (not-own at xs p (head-apart at xs d) k)) (gone p xs))

    taken-others : (at : ℕ) (xs : List ℕ) → IsCircle c at xs → has p xs ≡ true → (k : ℕ) (ys : List ℕ) → IsCircle c k ys → has p (k ∷ ys) ≡ false → IsCircle (taken c p) k ys
    taken-others at xs g among k ys h other =
        let back : n (f p) ≡ p = next-former n f at xs at p g among in
        let forth : f (n p) ≡ p = former-next n f at xs at p g among in
        let source : has (f p) (k ∷ ys) ≡ false =
        not-source n f k ys k (f p) h (ap (λ (z : ℕ). has z ys) back ∙ second-false (nat_eq p k) (has p ys) other) (ap (λ (z : ℕ). nat_eq z k) back ∙ first-false (nat_eq p k) (has p ys) other) in
        let target = not-target n f k ys k (n p) h (ap (λ (z : ℕ). has z (k ∷ ys)) forth ∙ other) in
        past k ys (frame-former (changed n (f p) (n p)) f k ys k (n p) (f p) (frame-next n f k ys k (f p) (n p) h source) target.0 target.1) other

    itself : IsCircle (taken c p) p []
    itself = (
      set-twice c.next (f p) (n p) p p p (l.former p b) b ∙ changed-at (changed n (f p) (n p)) p p p refl,
      set-twice c.former (n p) (f p) p p p (omega (arith, l.same, l.next p b)) (omega (arith, l.same, b)) ∙ changed-at (changed f (n p) (f p)) p p p refl,
    )

    pub is-taken : IsTaken c p (taken c p)
    is-taken = record { long = set-twice-long c.next (f p) (n p) p p; itself = itself; own = taken-own; others = taken-others }
