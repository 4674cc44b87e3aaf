-- What holds after every list of events.
use Rattle.std.proofs.Common.{◌≡◌, ℕ, ◌+◌, ◌<◌, ◌++◌, ◌∙◌, length, take, get_or, inl, Bool, true, false, List, [], ◌∷◌, refl, sym, ap, subst, arith}
use Rattle.std.specs.Prelude.{Result, Ok, Err, OnOk, nat_lt, if◌then◌else◌}
use Rattle.std.proofs.lemmas.Grind.{take_at_read}
use Rattle.chan_model.specs.declared.fault.Fault.{Fault}
use Rattle.chan_model.specs.declared.names.Side.{Side}
use Rattle.agreement_laws.specs.Links.{Links}
use Rattle.agreement_laws.specs.Claims.{IsSound}
use Rattle.agreement_laws.specs.Invariant.{IsGood}
use Rattle.agree.specs.declared.event.WorldEvent.{WorldEvent}
use Rattle.agree.specs.State.{WorldState, links_of, opening_world}
use Rattle.agree.specs.Lines.{GivesResult}
use Rattle.agree.specs.Results.{WorldResult, world_result_of, counted, max_steps, world_result, state_after, world_after, worlds_after}
use Rattle.agree.specs.Bounds.{IsWorldWithin, IsWell}
use Rattle.agree.specs.Promises.{AreSound, EndsByEvent, EachEnds}
use Rattle.agree.proofs.Making.{OnDone, Keeps, Ends, Kept, turn-kept}
use Rattle.agree.proofs.Numbers.{event-within}

abbrev pub Means : Type 0
Means = (w : Links) (side : Side) → IsGood w → IsSound w side

abbrev pub Lasts : WorldState → WorldEvent → WorldState → Type 0
Lasts w e new = IsWell new × EndsByEvent w e new

counted-lasts : (w : WorldState) (e : WorldEvent) (turn : WorldResult) → OnDone (Kept w e) turn → OnDone (IsWorldWithin (w.steps + 1)) turn → OnDone (Lasts w e) (counted w.steps turn)
counted-lasts w e (Ok new) kept within =
    (record { good = kept.0; within = record { «unit» = within.«unit»; first = within.first; second = within.second } }, kept.1)
counted-lasts w e (Err f) kept within = tt

bounded-lasts : (w : WorldState) (e : WorldEvent) (b : Bool) (turn : WorldResult) (f : Fault) → OnDone (Lasts w e) turn → OnDone (Lasts w e) (if b then turn else Err f)
bounded-lasts w e true turn f h = h
bounded-lasts w e false turn f h = tt

turn-lasts : Keeps → Ends → (w : WorldState) (e : WorldEvent) → IsWell w → OnDone (Lasts w e) (world_result w e)
turn-lasts keeps ends w e well =
    bounded-lasts w e (nat_lt w.steps max_steps) (counted w.steps (world_result_of w e)) _
    (counted-lasts w e (world_result_of w e) (turn-kept keeps ends w e well.good) (event-within w.steps w e well.within))

pub done-lasts : Keeps → Ends → (w : WorldState) (e : WorldEvent) (new : WorldState) → IsWell w → world_result w e ≡ Ok new → Lasts w e new
done-lasts keeps ends w e new well is = subst (λ (x : WorldResult). OnDone (Lasts w e) x) is (turn-lasts keeps ends w e well)

after-lasts : (w : WorldState) (e : WorldEvent) (turn : WorldResult) → IsWell w → OnDone (Lasts w e) turn → Lasts w e (state_after w turn)
after-lasts w e (Ok new) well lasts = lasts
after-lasts w e (Err f) well lasts = (well, λ side due. inl due)

pub event-lasts : Keeps → Ends → (w : WorldState) (e : WorldEvent) → IsWell w → Lasts w e (world_after w e)
event-lasts keeps ends w e well = after-lasts w e (world_result w e) well (turn-lasts keeps ends w e well)

pub list-well : Keeps → Ends → (w : WorldState) (es : List WorldEvent) → IsWell w → IsWell (worlds_after w es)
list-well keeps ends w [] well = well
list-well keeps ends w (e ∷ es) well = list-well keeps ends (world_after w e) es (event-lasts keeps ends w e well).0

pub list-ends : Keeps → Ends → (w : WorldState) (es : List WorldEvent) → IsWell w → EachEnds w es
list-ends keeps ends w [] well = tt
list-ends keeps ends w (e ∷ es) well =
    let lasts : Lasts w e (world_after w e) = event-lasts keeps ends w e well in (lasts.1, list-ends keeps ends (world_after w e) es lasts.0)

pub well-sound : Means → (w : WorldState) → IsWell w → AreSound w
well-sound means w well side = means (links_of w) side well.good

-- the same of a call that does as a turn says
pub given-well : {A : Type 0} → Keeps → Ends → (w : WorldState) (e : WorldEvent) (new : WorldState) (r : Result A Fault) (reason : Type 0) → IsWell w →
    GivesResult w (world_result w e) reason r new → IsWell new
given-well keeps ends w e new (Ok done) reason well given = (done-lasts keeps ends w e new well given).0
given-well keeps ends w e new (Err f) reason well given = subst (λ (x : WorldState). IsWell x) (sym given.0) well

pub given-ends : {A : Type 0} → Keeps → Ends → (w : WorldState) (e : WorldEvent) (new : WorldState) (r : Result A Fault) (reason : Type 0) → IsWell w →
    GivesResult w (world_result w e) reason r new → OnOk r (EndsByEvent w e new)
given-ends keeps ends w e new (Ok done) reason well given = (done-lasts keeps ends w e new well given).1
given-ends keeps ends w e new (Err f) reason well given = tt

-- one event more
worlds-push : (w : WorldState) (es : List WorldEvent) (e : WorldEvent) → worlds_after w (es ++ e ∷ []) ≡ world_after (worlds_after w es) e
worlds-push w [] e = refl
worlds-push w (x ∷ xs) e = worlds-push (world_after w x) xs e

worlds-more : (w : WorldState) (es : List WorldEvent) (i : ℕ) (d : WorldEvent) → i < length es →
    worlds_after w (take (i + 1) es) ≡ world_after (worlds_after w (take i es)) (get_or es i d)
worlds-more w es i d lt =
    ap (λ (xs : List WorldEvent). worlds_after w xs) (take_at_read es i d lt).1 ∙ worlds-push w (take i es) (get_or es i d)

pub worlds-step : (w now new : WorldState) (es : List WorldEvent) (i : ℕ) (e d : WorldEvent) → i < length es → e ≡ get_or es i d → now ≡ worlds_after w (take i es) →
    new ≡ world_after now e → new ≡ worlds_after w (take (i + 1) es)
worlds-step w now new es i e d lt there before step =
    step ∙ (ap (λ (x : WorldEvent). world_after now x) there ∙ (ap (λ (x : WorldState). world_after x (get_or es i d)) before ∙ sym (worlds-more w es i d lt)))

-- at the opening
pub open-well : IsGood (links_of opening_world) → IsWell opening_world
open-well good =
    record { good = good; within = record { «unit» = record { restarts = omega arith; attentions = omega arith; connection = omega arith; sequence = omega arith }; first = omega arith; second = omega arith } }
