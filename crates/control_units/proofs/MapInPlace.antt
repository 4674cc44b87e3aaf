-- A loop that replaces each element by its image.
use Rattle.std.proofs.Common.{◌≡◌, ℕ, zero, suc, ◌+◌, ◌<◌, List, [], ◌∷◌, ◌++◌, length, map, take, drop, get_or, refl, ap, arith, add-one}
use Rattle.std.specs.Prelude.{slice_set}

pub not_yet : {A : Type 0} (f : A → A) (xs : List A) (i : ℕ) (d : A) → i < length xs → get_or (map f (take i xs) ++ drop i xs) i d ≡ get_or xs i d
not_yet f [] i d h = absurd (omega arith)
not_yet f (x ∷ xs) zero d h = refl
not_yet f (x ∷ xs) (suc i) d h = not_yet f xs i d (omega arith)

pub mapped_next : {A : Type 0} (f : A → A) (xs : List A) (i : ℕ) (d : A) → i < length xs → slice_set (map f (take i xs) ++ drop i xs) i (f (get_or xs i d)) ≡ map f (take (suc i) xs) ++ drop (suc i) xs
mapped_next f [] i d h = absurd (omega arith)
mapped_next f (x ∷ xs) zero d h = refl
mapped_next f (x ∷ xs) (suc i) d h = ap (λ ys. f x ∷ ys) (mapped_next f xs i d (omega arith))

-- the invariant of such a loop, one element on
pub one_more : {A : Type 0} (f : A → A) (xs subs : List A) (i : ℕ) (d new : A) → i < length xs → subs ≡ map f (take i xs) ++ drop i xs → new ≡ f (get_or subs i d) → slice_set subs i new ≡ map f (take (i + 1) xs) ++ drop (i + 1) xs
one_more f xs subs i d new h e n =
    let a = not_yet f xs i d h in
    let b = mapped_next f xs i d h in
    rw add-one (cc)
