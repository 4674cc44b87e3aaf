-- Lists of indices under a test.
use Rattle.std.proofs.Common.{◌≡◌, refl, sym, ◌∙◌, ap, ℕ, Bool, true, false, cond, ◌||◌, List, [], ◌∷◌, ◌++◌, nat_eq, eqb-true, eq-eqb, true≢false}
use Rattle.std.specs.List.{IsDistinct, filter}
use Rattle.std.proofs.lemmas.List.Folds.{list_any-append}
use Rattle.std.proofs.lemmas.Map.Keys.{IsDistinct-cons, IsDistinct-tail}
use Rattle.interruptions.specs.Paths.{has}
use Rattle.interruptions.proofs.Members.{all-others, first-false, flipped, head-apart, neither, not-true, second-false}

pub in-rest : (a : Bool) {b : Bool} → b ≡ true → (a || b) ≡ true
in-rest true h = refl
in-rest false h = h

pub has-own : (x : ℕ) (xs : List ℕ) → has x (x ∷ xs) ≡ true
has-own x xs = ap (λ (b : Bool). b || has x xs) (eq-eqb x x refl)

or-false : (b : Bool) → (b || false) ≡ b
or-false true = refl
or-false false = refl

pub has-end : (q : ℕ) (xs : List ℕ) (p : ℕ) → has q (xs ++ p ∷ []) ≡ (has q xs || nat_eq q p)
has-end q xs p = list_any-append (nat_eq q) xs (p ∷ []) ∙ ap (λ (b : Bool). has q xs || b) (or-false (nat_eq q p))

pub distinct-end : (xs : List ℕ) (p : ℕ) → IsDistinct nat_eq xs → has p xs ≡ false → IsDistinct nat_eq (xs ++ p ∷ [])
distinct-end [] p h none = IsDistinct-cons nat_eq p [] tt h
distinct-end (x ∷ xs) p h none =
    let apart : has x (xs ++ p ∷ []) ≡ false = has-end x xs p ∙ neither (head-apart x xs h) (flipped p x (first-false (nat_eq p x) (has p xs) none)) in
    IsDistinct-cons nat_eq x (xs ++ p ∷ []) (all-others x (xs ++ p ∷ []) apart) (distinct-end xs p (IsDistinct-tail nat_eq x xs h) (second-false (nat_eq p x) (has p xs) none))

pub filter-end : (test : ℕ → Bool) (xs : List ℕ) (p : ℕ) → filter test (xs ++ p ∷ []) ≡ filter test xs ++ cond (test p) (p ∷ []) []
filter-end test [] p = refl
filter-end test (x ∷ xs) p =
    elim (test x) as (λ b. cond b (x ∷ filter test (xs ++ p ∷ [])) (filter test (xs ++ p ∷ [])) ≡ cond b (x ∷ filter test xs) (filter test xs) ++ cond (test p) (p ∷ []) [])
    [ true ↦ ap (λ (ys : List ℕ). x ∷ ys) (filter-end test xs p) | false ↦ filter-end test xs p ]

module _ (test : ℕ → Bool) where
  pub in-filter : (xs : List ℕ) (q : ℕ) → has q (filter test xs) ≡ true → has q xs ≡ true
  in-filter [] q h = h
  in-filter (x ∷ xs) q h =
      elim (test x) as (λ b. has q (cond b (x ∷ filter test xs) (filter test xs)) ≡ true → (nat_eq q x || has q xs) ≡ true) [
        | true ↦ λ found. elim (nat_eq q x) as (λ v. (v || has q (filter test xs)) ≡ true → (v || has q xs) ≡ true) [ true ↦ λ k. refl | false ↦ λ k. in-filter xs q k ] found
        | false ↦ λ found. in-rest (nat_eq q x) (in-filter xs q found)
      ] h

  pub none-filter : (xs : List ℕ) (q : ℕ) → has q xs ≡ false → has q (filter test xs) ≡ false
  none-filter xs q h = not-true (λ found. true≢false (sym (in-filter xs q found) ∙ h))

  pub test-of : (xs : List ℕ) (q : ℕ) → has q (filter test xs) ≡ true → test q ≡ true
  test-of [] q h = cc
  test-of (x ∷ xs) q h =
      elim (test x) as (λ b. test x ≡ b → has q (cond b (x ∷ filter test xs) (filter test xs)) ≡ true → test q ≡ true) [
        | true ↦ λ is found. elim (nat_eq q x) as (λ v. nat_eq q x ≡ v → (v || has q (filter test xs)) ≡ true → test q ≡ true)
            [ true ↦ λ same k. ap test (eqb-true q x same) ∙ is | false ↦ λ other k. test-of xs q k ] refl found
        | false ↦ λ is found. test-of xs q found
      ] refl h

  pub stays-in : (xs : List ℕ) (q : ℕ) → has q xs ≡ true → test q ≡ true → has q (filter test xs) ≡ true
  stays-in [] q h t = h
  stays-in (x ∷ xs) q h t =
      elim (nat_eq q x) as (λ v. nat_eq q x ≡ v → (v || has q xs) ≡ true → has q (cond (test x) (x ∷ filter test xs) (filter test xs)) ≡ true) [
        | true ↦ λ same k. ap (λ (b : Bool). has q (cond b (x ∷ filter test xs) (filter test xs))) (ap test (sym (eqb-true q x same)) ∙ t)
            ∙ ap (λ (b : Bool). b || has q (filter test xs)) same
        | false ↦ λ other k. elim (test x) as (λ b. has q (cond b (x ∷ filter test xs) (filter test xs)) ≡ true)
            [ true ↦ in-rest (nat_eq q x) (stays-in xs q k t) | false ↦ stays-in xs q k t ]
      ] refl h

  pub distinct-filter : (xs : List ℕ) → IsDistinct nat_eq xs → IsDistinct nat_eq (filter test xs)
  distinct-filter [] h = h
  distinct-filter (x ∷ xs) h =
      let rest : IsDistinct nat_eq (filter test xs) = distinct-filter xs (IsDistinct-tail nat_eq x xs h) in
      elim (test x) as (λ b. IsDistinct nat_eq (cond b (x ∷ filter test xs) (filter test xs)))
      [ true ↦ IsDistinct-cons nat_eq x (filter test xs) (all-others x (filter test xs) (none-filter xs x (head-apart x xs h))) rest | false ↦ rest ]

module _ (s t : ℕ → Bool) where
  pub filter-turned : (xs : List ℕ) → filter s (filter t xs) ≡ filter t (filter s xs)
  filter-turned [] = refl
  filter-turned (x ∷ xs) =
      elim (t x) as (λ b. t x ≡ b → filter s (cond b (x ∷ filter t xs) (filter t xs)) ≡ filter t (cond (s x) (x ∷ filter s xs) (filter s xs))) [
        | true ↦ λ is. elim (s x) as (λ v. cond v (x ∷ filter s (filter t xs)) (filter s (filter t xs)) ≡ filter t (cond v (x ∷ filter s xs) (filter s xs))) [
          | true ↦ ap (λ (ys : List ℕ). x ∷ ys) (filter-turned xs) ∙ ap (λ (b : Bool). cond b (x ∷ filter t (filter s xs)) (filter t (filter s xs))) (sym is)
          | false ↦ filter-turned xs
        ]
        | false ↦ λ is. filter-turned xs ∙ (elim (s x) as (λ v. filter t (filter s xs) ≡ filter t (cond v (x ∷ filter s xs) (filter s xs))) [
          | true ↦ ap (λ (b : Bool). cond b (x ∷ filter t (filter s xs)) (filter t (filter s xs))) (sym is)
          | false ↦ refl
        ])
      ] refl

  pub same-filter : (xs : List ℕ) → ((q : ℕ) → has q xs ≡ true → s q ≡ t q) → filter s xs ≡ filter t xs
  same-filter [] h = refl
  same-filter (x ∷ xs) h =
      ap (λ (b : Bool). cond b (x ∷ filter s xs) (filter s xs)) (h x (has-own x xs))
      ∙ ap (λ (ys : List ℕ). cond (t x) (x ∷ ys) ys) (same-filter xs (λ q k. h q (in-rest (nat_eq q x) k)))
