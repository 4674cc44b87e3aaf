-- Lists that are made item by item.
use Rattle.std.proofs.Common.{◌≡◌, ℕ, zero, suc, ◌+◌, ◌<◌, List, [], ◌∷◌, ◌++◌, map, refl, sym, ap, ◌∙◌, arith, append_assoc}
use Rattle.std.specs.Prelude.{Option, Some, None, slice_index}
use Rattle.std.specs.List.{range_with_len}
use Rattle.std.proofs.lemmas.List.{append-nil}
use Rattle.std.proofs.lemmas.List.FromFn.{map-range_with_len_more}
use Rattle.idaw.specs.Places.{each_below}
use Rattle.data_move.specs.Accesses.{bytes_at}

pub each_below_add : {X : Type 0} → (f : ℕ → X) (n k : ℕ) → each_below f (n + k) ≡ each_below f n ++ each_below (λ i. f (n + i)) k
each_below_add f n zero = let e : n + 0 ≡ n = omega arith in ap (each_below f) e ∙ sym (append-nil (each_below f n))
each_below_add f n (suc k) =
    let e : n + suc k ≡ suc (n + k) = omega arith in
    ap (each_below f) e ∙ ap (λ xs. xs ++ f (n + k) ∷ []) (each_below_add f n k)
    ∙ append_assoc (each_below f n) (each_below (λ i. f (n + i)) k) (f (n + k) ∷ [])

pub each_below_same : {X : Type 0} → (f g : ℕ → X) (n : ℕ) → ((i : ℕ) → i < n → f i ≡ g i) → each_below f n ≡ each_below g n
each_below_same f g zero e = refl
each_below_same f g (suc n) e =
    ap (λ xs. xs ++ f n ∷ []) (each_below_same f g n (λ i l. e i (omega arith)))
    ∙ ap (λ x. each_below g n ++ x ∷ []) (e n (omega arith))

bytes_at-append : (bytes : List ℕ) (xs ys : List (Option ℕ)) → bytes_at bytes (xs ++ ys) ≡ bytes_at bytes xs ++ bytes_at bytes ys
bytes_at-append bytes [] ys = refl
bytes_at-append bytes (None ∷ xs) ys = bytes_at-append bytes xs ys
bytes_at-append bytes (Some x ∷ xs) ys = ap (λ zs. slice_index bytes x ∷ zs) (bytes_at-append bytes xs ys)

-- no place, no byte
pub no_bytes : (bytes : List ℕ) (f : ℕ → Option ℕ) (n : ℕ) → ((i : ℕ) → i < n → f i ≡ None) → bytes_at bytes (each_below f n) ≡ []
no_bytes bytes f zero e = refl
no_bytes bytes f (suc n) e =
    bytes_at-append bytes (each_below f n) (f n ∷ [])
    ∙ ap (λ xs. xs ++ bytes_at bytes (f n ∷ [])) (no_bytes bytes f n (λ i l. e i (omega arith)))
    ∙ ap (λ x. bytes_at bytes (x ∷ [])) (e n (omega arith))

-- places side by side
pub bytes_in_a_row : (bytes : List ℕ) (f : ℕ → Option ℕ) (a n : ℕ) → ((i : ℕ) → i < n → f i ≡ Some (a + i)) → bytes_at bytes (each_below f n) ≡ map (slice_index bytes) (range_with_len a n)
bytes_in_a_row bytes f a zero e = refl
bytes_in_a_row bytes f a (suc n) e =
    let more : n + 1 ≡ suc n = omega arith in
    bytes_at-append bytes (each_below f n) (f n ∷ [])
    ∙ ap (λ xs. xs ++ bytes_at bytes (f n ∷ [])) (bytes_in_a_row bytes f a n (λ i l. e i (omega arith)))
    ∙ ap (λ x. map (slice_index bytes) (range_with_len a n) ++ bytes_at bytes (x ∷ [])) (e n (omega arith))
    ∙ sym (map-range_with_len_more (slice_index bytes) a n (a + n) refl)
    ∙ ap (λ k. map (slice_index bytes) (range_with_len a k)) more
