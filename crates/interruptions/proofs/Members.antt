-- Which numbers a list has.
use Rattle.std.proofs.Common.{◌≡◌, refl, sym, ◌∙◌, ap, ℕ, ◌<◌, ◌≤◌, Bool, true, false, not, cond, ◌||◌, List, [], ◌∷◌, length, nat_eq, eqb-true, eq-eqb, true≢false}
use Rattle.std.specs.List.{IsDistinct, AllByRecursion}
use Rattle.std.proofs.lemmas.Map.Keys.{IsDistinct-head}
use Rattle.std.proofs.lemmas.Map.Steps.{length-le_from_distinct_below}
use Rattle.interruptions.specs.Paths.{has, without}

pub first-false : (a b : Bool) → (a || b) ≡ false → a ≡ false
first-false true b h = h
first-false false b h = refl

pub second-false : (a b : Bool) → (a || b) ≡ false → b ≡ false
second-false true b h = cc
second-false false b h = h

pub neither : {a b : Bool} → a ≡ false → b ≡ false → (a || b) ≡ false
neither p q = cc

pub by-other : (a : Bool) {b : Bool} → (a || b) ≡ true → a ≡ false → b ≡ true
by-other true h n = cc
by-other false h n = h

is-false : (b : Bool) → (b ≡ true → ⊥) → b ≡ false
is-false true h = absurd (h refl)
is-false false h = refl

pub not-true : {b : Bool} → (b ≡ true → ⊥) → b ≡ false
not-true {b} h = is-false b h

pub differ : (a b : ℕ) → (a ≡ b → ⊥) → nat_eq a b ≡ false
differ a b h = not-true (λ same. h (eqb-true a b same))

pub apart : (a b : ℕ) → nat_eq a b ≡ false → a ≡ b → ⊥
apart a b h same = true≢false (sym (eq-eqb a b same) ∙ h)

pub flipped : (a b : ℕ) → nat_eq a b ≡ false → nat_eq b a ≡ false
flipped a b h = differ b a (λ e. apart a b h (sym e))

-- no other number of the list is like its first one
none-of : (x : ℕ) (xs : List ℕ) → AllByRecursion (λ y. nat_eq x y ≡ false) xs → has x xs ≡ false
none-of x [] h = refl
none-of x (y ∷ xs) h = neither h.0 (none-of x xs h.1)

pub all-others : (x : ℕ) (xs : List ℕ) → has x xs ≡ false → AllByRecursion (λ y. nat_eq x y ≡ false) xs
all-others x [] h = tt
all-others x (y ∷ xs) h = (first-false (nat_eq x y) (has x xs) h, all-others x xs (second-false (nat_eq x y) (has x xs) h))

pub head-apart : (x : ℕ) (xs : List ℕ) → IsDistinct nat_eq (x ∷ xs) → has x xs ≡ false
head-apart x xs h = none-of x xs (IsDistinct-head nat_eq x xs h)

-- distinct numbers below another are not more than that
pub few : (xs : List ℕ) (bound : ℕ) → IsDistinct nat_eq xs → ((q : ℕ) → has q xs ≡ true → q < bound) → length xs ≤ bound
few xs bound h below = length-le_from_distinct_below xs bound h below

pub without-none : (p : ℕ) (xs : List ℕ) → has p xs ≡ false → without p xs ≡ xs
without-none p [] h = refl
without-none p (x ∷ xs) h =
    ap (λ (b : Bool). cond (not b) (x ∷ without p xs) (without p xs)) (first-false (nat_eq p x) (has p xs) h)
    ∙ ap (λ (ys : List ℕ). x ∷ ys) (without-none p xs (second-false (nat_eq p x) (has p xs) h))

pub gone : (p : ℕ) (xs : List ℕ) → has p (without p xs) ≡ false
gone p [] = refl
gone p (x ∷ xs) =
    elim (nat_eq p x) as (λ b. nat_eq p x ≡ b → has p (cond (not b) (x ∷ without p xs) (without p xs)) ≡ false)
    [ true ↦ λ same. gone p xs | false ↦ λ other. neither other (gone p xs) ] refl

-- a number that the list has is none that it does not have
pub not-own : (p : ℕ) (xs : List ℕ) (q : ℕ) → has p xs ≡ false → has q xs ≡ true → nat_eq p q ≡ false
not-own p xs q none found = differ p q (λ e. true≢false (sym found ∙ ap (λ (x : ℕ). has x xs) (sym e) ∙ none))
