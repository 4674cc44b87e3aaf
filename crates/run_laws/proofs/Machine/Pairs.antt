-- Lists each of whose elements stands in a relation to each later one.
use Rattle.std.proofs.Common.{◌≡◌, refl, sym, ◌∙◌, subst, ℕ, zero, suc, ◌<◌, List, [], ◌∷◌, ◌++◌, length, arith, inl, inr}
use Rattle.std.specs.Prelude.{◌⊎◌, All, AllPairs, Contains, slice_index_or}
use Rattle.std.proofs.lemmas.List.Elements.{All-contains, Contains-append_right}

-- the first, or one of the others
contains-at : {A : Type 0} (x : A) (xs : List A) (a : A) (i : ℕ) → i < length (x ∷ xs) → slice_index_or (x ∷ xs) i a ≡ a → (x ≡ a) ⊎ Contains xs a
contains-at x xs a zero h e = inl e
contains-at x xs a (suc i) h e = inr (i, omega (arith, h), e)

contains-cases : {A : Type 0} (x : A) (xs : List A) (a : A) → Contains (x ∷ xs) a → (x ≡ a) ⊎ Contains xs a
contains-cases x xs a c = contains-at x xs a c.0 c.1 c.2

pub contains-more : {A : Type 0} (x : A) (xs : List A) (a : A) → Contains xs a → Contains (x ∷ xs) a
contains-more x xs a c = (suc c.0, omega (arith, c.1), c.2)

pub all-rest : {A : Type 0} (P : A → Type 0) (x : A) (xs : List A) → All P (x ∷ xs) → P x × All P xs
all-rest P x xs a = (a 0 x (omega arith), λ i d h. a (suc i) d (omega (arith, h)))

pairs-rest : {A : Type 0} (R : A → A → Type 0) (x : A) (xs : List A) → AllPairs R (x ∷ xs) → All (R x) xs × AllPairs R xs
pairs-rest R x xs p = (λ j d h. p 0 (suc j) d (omega arith) (omega (arith, h)), λ i j d l h. p (suc i) (suc j) d (omega (arith, l)) (omega (arith, h)))

pub pairs-weaker : {A : Type 0} (R S : A → A → Type 0) (xs : List A) → ((x y : A) → R x y → S x y) → AllPairs R xs → AllPairs S xs
pairs-weaker R S xs f p = λ i j d l h. f _ _ (p i j d l h)

-- of two elements one comes before the other, or they are the same
pub pair-of : {A : Type 0} (R : A → A → Type 0) (xs : List A) (a b : A) → AllPairs R xs → Contains xs a → Contains xs b → R a b ⊎ (R b a ⊎ (a ≡ b))
pair-of R [] a b p c d = absurd (omega (arith, c.1))
pair-of {A} R (x ∷ xs) a b p c d =
    let r : All (R x) xs × AllPairs R xs = pairs-rest R x xs p in
    elim (contains-cases x xs a c) [
      | inl e ↦ elim (contains-cases x xs b d) [
        | inl f ↦ inr (inr (sym e ∙ f))
        | inr f ↦ inl (subst (λ (y : A). R y b) e (All-contains (R x) xs b r.0 f))
      ]
      | inr e ↦ elim (contains-cases x xs b d) [
        | inl f ↦ inr (inl (subst (λ (y : A). R y a) f (All-contains (R x) xs a r.0 e)))
        | inr f ↦ pair-of R xs a b r.1 e f
      ]
    ]

-- the last of a list comes after each other
pub before-last : {A : Type 0} (R : A → A → Type 0) (xs : List A) (t a : A) → AllPairs R (xs ++ t ∷ []) → Contains xs a → R a t
before-last R [] t a p c = absurd (omega (arith, c.1))
before-last {A} R (x ∷ xs) t a p c =
    let r : All (R x) (xs ++ t ∷ []) × AllPairs R (xs ++ t ∷ []) = pairs-rest R x (xs ++ t ∷ []) p in
    elim (contains-cases x xs a c) [
      | inl e ↦ subst (λ (y : A). R y t) e (All-contains (R x) (xs ++ t ∷ []) t r.0 (Contains-append_right xs (t ∷ []) t (0, omega arith, refl)))
      | inr e ↦ before-last R xs t a r.1 e
    ]
