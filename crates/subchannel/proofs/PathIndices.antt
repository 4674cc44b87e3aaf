-- The index of a channel path among those of a subchannel.
use Rattle.std.proofs.Common.{◌≡◌, refl, ap, ◌∙◌, ℕ, ◌+◌, ◌<◌, ◌==◌, zero, suc, Bool, false, None, Some, List, [], ◌∷◌, length, get_or, if◌then◌else◌, eq-eqb, ne_eqb, arith}
use Rattle.subchannel_model.specs.Indices.{one_later}
use Rattle.subchannel_model.specs.Losing.{path_index}

pub path_index-at : (chpid : ℕ) (paths : List ℕ) (i : ℕ) → i < length paths → ((k : ℕ) → k < i → get_or paths k 0 ≡ chpid → ⊥) →
    get_or paths i 0 ≡ chpid → path_index chpid paths ≡ Some i
path_index-at chpid [] i within before here = absurd (omega (arith, within))
path_index-at chpid (x ∷ xs) zero within before here =
    ap (λ (b : Bool). if b then Some 0 else one_later (path_index chpid xs)) (eq-eqb x chpid here)
path_index-at chpid (x ∷ xs) (suc i) within before here =
    let other : (x == chpid) ≡ false = ne_eqb x chpid (before 0 (omega arith)) in
    let inside : i < length xs = omega (arith, within) in
    let later : path_index chpid xs ≡ Some i = path_index-at chpid xs i inside (λ k h. before (suc k) (omega (arith, h))) here in
    let one : i + 1 ≡ suc i = omega arith in
    (ap (λ (b : Bool). if b then Some 0 else one_later (path_index chpid xs)) other ∙ ap one_later later) ∙ ap (λ (n : ℕ). Some n) one

pub path_index-none : (chpid : ℕ) (paths : List ℕ) → ((k : ℕ) → k < length paths → get_or paths k 0 ≡ chpid → ⊥) → path_index chpid paths ≡ None
path_index-none chpid [] others = refl
path_index-none chpid (x ∷ xs) others =
    let other : (x == chpid) ≡ false = ne_eqb x chpid (others 0 (omega arith)) in
    let later : path_index chpid xs ≡ None = path_index-none chpid xs (λ k h. others (suc k) (omega (arith, h))) in
    ap (λ (b : Bool). if b then Some 0 else one_later (path_index chpid xs)) other ∙ ap one_later later
