-- The first path in cyclic order is a choice that meets the law, and no usable path comes before it.
use Rattle.std.proofs.Common.{◌≡◌, refl, ap, ℕ, zero, suc, ◌+◌, ◌%◌, ◌<◌, ◌≤◌, Bool, true, false, true≢false, List, Option, Some, None, sym, ◌∙◌, arith, subst, [], ◌∷◌, ◌⊎◌, ⊎_elim, inl, inr}
use Rattle.std.proofs.lemmas.Option.{get_or_from_slice_get}
use Rattle.std.proofs.lemmas.Bool.{cases_lt}
use Rattle.std.specs.Prelude.{if◌then◌else◌, slice_get, slice_index_or}
use Rattle.chan_model.specs.PathSets.{cyclic_path, is_member}
use Rattle.path_select.specs.Choice.{IsChoice, IsNextFrom, IsUsable, steps_to}

-- no usable path is among the first so many
abbrev IsAhead : List Bool → ℕ → ℕ → Type 0
IsAhead usable first step = (other : ℕ) → IsUsable usable other → step ≤ steps_to first other

abbrev pub IsRight : List Bool → ℕ → Option ℕ → Type 0
IsRight usable first path = IsChoice usable path × IsNextFrom usable first path

member-usable : (usable : List Bool) (path : ℕ) → slice_index_or usable path false ≡ true → slice_get usable path ≡ Some true
member-usable [] path e = absurd (true≢false (sym e))
member-usable (x ∷ xs) zero e = ap Some e
member-usable (x ∷ xs) (suc path) e = member-usable xs path e

usable-member : (usable : List Bool) (path : ℕ) → IsUsable usable path → is_member usable path ≡ true
usable-member usable path u = get_or_from_slice_get usable path true false u.1

this-step : (first step : ℕ) → first < 8 → step < 8 → steps_to first ((first + step) % 8) ≡ step
this-step first step a b = omega (arith, a, b)

step-path : (first step other : ℕ) → first < 8 → other < 8 → steps_to first other ≡ step → (first + step) % 8 ≡ other
step-path first step other a b e = omega (arith, a, b, e)

none-left : (usable : List Bool) (first step : ℕ) → 8 ≤ step → IsAhead usable first step → IsRight usable first None
none-left usable first step over ahead = (λ path u. let far = ahead path u in let near : steps_to first path < 8 = omega arith in absurd (omega (arith, over, far, near)), tt)

here : (usable : List Bool) (first step : ℕ) → first < 8 → step < 8 → is_member usable ((first + step) % 8) ≡ true → IsAhead usable first step → IsRight usable first (Some ((first + step) % 8))
here usable first step a b e ahead =
    ((omega arith, member-usable usable ((first + step) % 8) e), λ other u. subst (λ (n : ℕ). n ≤ steps_to first other) (sym (this-step first step a b)) (ahead other u))

less-or-same : (a b : ℕ) → a ≤ b → (a + 1 ≤ b) ⊎ (b ≡ a)
less-or-same a b l = ⊎_elim (λ less. inl (omega (arith, less))) (λ over. inr (omega (arith, l, over))) (cases_lt a b)

ahead-more : (usable : List Bool) (first step : ℕ) → first < 8 → is_member usable ((first + step) % 8) ≡ false → IsAhead usable first step → IsAhead usable first (step + 1)
ahead-more usable first step a e ahead other u =
    let far : step ≤ steps_to first other = ahead other u in
    let ne : steps_to first other ≡ step → ⊥ = λ is. true≢false (sym (usable-member usable other u) ∙ ap (is_member usable) (sym (step-path first step other a u.0 is)) ∙ e) in
    ⊎_elim (λ less. less) (λ same. absurd (ne same)) (less-or-same step (steps_to first other) far)

here-or-later : (usable : List Bool) (first step : ℕ) (rest : Option ℕ) → first < 8 → step < 8 → IsAhead usable first step → (IsAhead usable first (step + 1) → IsRight usable first rest) →
    (is_in : Bool) → is_member usable ((first + step) % 8) ≡ is_in → IsRight usable first (if is_in then Some ((first + step) % 8) else rest)
here-or-later usable first step rest a b ahead later true e = here usable first step a b e ahead
here-or-later usable first step rest a b ahead later false e = later (ahead-more usable first step a e ahead)

chosen : (usable : List Bool) (first n step : ℕ) → first < 8 → n + step ≡ 8 → IsAhead usable first step → IsRight usable first (cyclic_path usable n (first + step))
chosen usable first zero step a whole ahead = none-left usable first step (omega (arith, whole)) ahead
chosen usable first (suc n) step a whole ahead =
    let later : IsAhead usable first (step + 1) → IsRight usable first (cyclic_path usable n (first + step + 1)) =
    λ more. subst (λ (k : ℕ). IsRight usable first (cyclic_path usable n k)) (omega arith) (chosen usable first n (step + 1) a (omega (arith, whole)) more) in
    here-or-later usable first step (cyclic_path usable n (first + step + 1)) a (omega (arith, whole)) ahead later (is_member usable ((first + step) % 8)) refl

pub first-right : (usable : List Bool) (first : ℕ) → first < 8 → IsRight usable first (cyclic_path usable 8 first)
first-right usable first small =
    subst (λ (k : ℕ). IsRight usable first (cyclic_path usable 8 k)) (omega arith) (chosen usable first 8 0 small refl (λ other u. omega arith))
