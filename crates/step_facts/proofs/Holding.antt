-- The holds of one subchannel more.
use Rattle.std.proofs.Common.{◌≡◌, ◌∙◌, ◌+◌, ℕ, suc, Bool, List, ap, sym, arith, Option, None, Some}
use Rattle.std.specs.Prelude.{slice_get}
use Rattle.step_facts.proofs.Telling.{no_holds, two_holds}
use Rattle.step_facts.specs.Holds.{hold_change, hold_change_at, hold_changes}
use Rattle.step_facts.specs.Told.{OnlyHeld, Told, with_holds}
use Rattle.functions.specs.Unwired.{Unwired}

pub hold-more : (first now next : Told) (ending : Bool) (befores afters : List Unwired) (n : ℕ) →
    now ≡ with_holds first (hold_changes ending befores afters n) → next ≡ with_holds now (hold_change_at ending n (slice_get befores n) (slice_get afters n)) →
    next ≡ with_holds first (hold_changes ending befores afters (n + 1))
hold-more first now next ending befores afters n so is =
    let one : suc n ≡ n + 1 = omega arith in
    let change = hold_change_at ending n (slice_get befores n) (slice_get afters n) in
    is ∙ (ap (λ (t : Told). with_holds t change) so
    ∙ (two_holds first (hold_changes ending befores afters n) change
    ∙ ap (λ (m : ℕ). with_holds first (hold_changes ending befores afters m)) one))

pub held-more : (first now next : Told) → OnlyHeld first now → OnlyHeld now next → OnlyHeld first next
held-more first now next a b = (b.0 ∙ a.0, b.1 ∙ a.1, b.2 ∙ a.2, b.3 ∙ a.3)

-- the holds of one subchannel, where it was seen or was not
pub held-none : (told : Told) (ending : Bool) (n : ℕ) (a b : Option Unwired) → a ≡ None → told ≡ with_holds told (hold_change_at ending n a b)
held-none told ending n a b e = sym (no_holds told) ∙ ap (λ (o : Option Unwired). with_holds told (hold_change_at ending n o b)) (sym e)

held-none_after : (told : Told) (ending : Bool) (n : ℕ) (a : Option Unwired) → told ≡ with_holds told (hold_change_at ending n a None)
held-none_after told ending n None = sym (no_holds told)
held-none_after told ending n (Some x) = sym (no_holds told)

pub held-none_now : (told : Told) (ending : Bool) (n : ℕ) (a b : Option Unwired) → b ≡ None → told ≡ with_holds told (hold_change_at ending n a b)
held-none_now told ending n a b e = held-none_after told ending n a ∙ ap (λ (o : Option Unwired). with_holds told (hold_change_at ending n a o)) (sym e)

pub held-both : (told new : Told) (ending : Bool) (n : ℕ) (a b : Option Unwired) (x y : Unwired) → a ≡ Some x → b ≡ Some y →
    new ≡ with_holds told (hold_change ending n x.state.hold y.state.hold) → new ≡ with_holds told (hold_change_at ending n a b)
held-both told new ending n a b x y e f is =
    is ∙ (ap (λ (o : Option Unwired). with_holds told (hold_change_at ending n o (Some y))) (sym e)
    ∙ ap (λ (o : Option Unwired). with_holds told (hold_change_at ending n a o)) (sym f))
