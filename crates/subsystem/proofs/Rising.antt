-- The serials of all subchannels after a step.
use Rattle.std.proofs.Common.{◌≡◌, refl, sym, ◌∙◌, ap, subst, ℕ, zero, suc, ◌≤◌, arith, List, [], ◌∷◌, ◌++◌, length, map, Option, None, Some, Result, Ok, Err}
use Rattle.std.specs.Prelude.{All, IfOk, IfSome, slice_get}
use Rattle.std.specs.List.{AllZip}
use Rattle.std.proofs.lemmas.List.Elements.{All-contains, All-map, All-weaker}
use Rattle.std.proofs.lemmas.Option.{slice_get_within, get_or_from_slice_get, same_Some}
use Rattle.scsw_irb.specs.declared.serials.Serials.{Serials}
use Rattle.chan_model.specs.declared.answer.Answer.{Answer}
use Rattle.chan_model.specs.declared.answer.ConditionCode.{ConditionCode}
use Rattle.chan_model.specs.declared.answer.ConditionCode.TheVariants as code
use Rattle.chan_model.specs.declared.fault.Fault.{Fault}
use Rattle.chan_model.specs.ConditionCodes.{answer_of_code}
use Rattle.chan_events.specs.Events.{Event}
use Rattle.chan_events.specs.declared.event.Event.TheVariants as event
use Rattle.chan_events.specs.declared.reply.Entry.{Entry}
use Rattle.chan_events.specs.Replies.{Reply}
use Rattle.channel_config.specs.Setup.{Setup}
use Rattle.subchannel_model.specs.declared.state.Subchannel.{Subchannel}
use Rattle.subchannel_model.specs.Conditions.{condition_of}
use Rattle.subchannel_model.specs.Indices.{sub_at}
use Rattle.chan_events.specs.Instructions.{subchannel_word}
use Rattle.machine_model.specs.State.{State, opening_of, index_of, sub_of}
use Rattle.machine_model.specs.Steps.{HasRun, Performs, Run, Step, Stepped}
use Rattle.run_laws.specs.StateClaims.{IsLaterSubchannel, IsPendingUncleared}
use Rattle.run_laws.specs.CodeSteps.{IsByTable, serials_of, state_of}
use Rattle.step_laws.specs.Codes.{code_by}
use Rattle.subsystem.specs.Keeping.{BringsOrdered, IsOrdered, Rises, all_serials, serials_brought}

-- what the laws say of runs
abbrev pub StepsLater : Type 0
StepsLater = (setup : Setup) (h : List Entry) (s : State) (e : Event) (r : Reply) (new : State) → Run (opening_of setup) h s → Step s e r new → AllZip IsLaterSubchannel s.subs new.subs

abbrev pub StandsPending : Type 0
StandsPending = (setup : Setup) (h : List Entry) (s : State) → Run (opening_of setup) h s → All IsPendingUncleared s.subs

abbrev pub GoesByTable : Type 0
GoesByTable = (s : State) (e : Event) (r : Reply) (new : State) → Step s e r new → IsByTable s e r new

-- no step lowers a serial
count-stays : (xs ys : List Subchannel) → AllZip IsLaterSubchannel xs ys → length (map (λ (sub : Subchannel). sub.state.serials) ys) ≡ length (map (λ (sub : Subchannel). sub.state.serials) xs)
count-stays [] [] z = refl
count-stays [] (y ∷ ys) z = absurd z
count-stays (x ∷ xs) [] z = absurd z
count-stays (x ∷ xs) (y ∷ ys) z = ap suc (count-stays xs ys z.1)

one-later : (xs ys : List Subchannel) (index : ℕ) (a b : Serials) → AllZip IsLaterSubchannel xs ys →
    slice_get (map (λ (sub : Subchannel). sub.state.serials) xs) index ≡ Some a → slice_get (map (λ (sub : Subchannel). sub.state.serials) ys) index ≡ Some b →
    (a.made ≤ b.made) × (a.cleared ≤ b.cleared)
one-later [] ys index a b z p q = absurd (cc p)
one-later (x ∷ xs) [] index a b z p q = absurd z
one-later (x ∷ xs) (y ∷ ys) zero a b z p q =
    let m : x.state.serials ≡ a = same_Some x.state.serials a p in
    let n : y.state.serials ≡ b = same_Some y.state.serials b q in (
      omega (arith, z.0.made, ap (λ (u : Serials). u.made) m, ap (λ (u : Serials). u.made) n),
      omega (arith, z.0.cleared, ap (λ (u : Serials). u.cleared) m, ap (λ (u : Serials). u.cleared) n),
    )
one-later (x ∷ xs) (y ∷ ys) (suc index) a b z p q = one-later xs ys index a b z.1 p q

later-rises : (old new : State) → AllZip IsLaterSubchannel old.subs new.subs → Rises (all_serials old) (all_serials new)
later-rises old new z = record {
  count = count-stays old.subs new.subs z;
  made = λ index a b p q. (one-later old.subs new.subs index a b z p q).0;
  cleared = λ index a b p q. (one-later old.subs new.subs index a b z p q).1;
}

pub same-rises : (xs : List Serials) → Rises xs xs
same-rises xs = record {
  count = refl;
  made = λ index a b p q. omega (arith, ap (λ (u : Serials). u.made) (same_Some a b (sym p ∙ q)));
  cleared = λ index a b p q. omega (arith, ap (λ (u : Serials). u.cleared) (same_Some a b (sym p ∙ q)));
}

pub performed-rises : StepsLater → (h : List Entry) (old : State) (e : Event) (a : Result Reply Fault) (new : State) → HasRun h old → Performs old e a new →
    Rises (all_serials old) (all_serials new)
performed-rises later h old e (Ok r) new past step = later-rises old new (later past.0.0 h old e r new (past.1 past.0.0 past.0.1) step)
performed-rises later h old e (Err f) new past refused =
    subst (λ (s : State). Rises (all_serials old) (all_serials s)) (sym refused.1) (same-rises (all_serials old))

-- after each run nothing is cleared that was not made
pub past-ordered : StandsPending → (h : List Entry) (s : State) → HasRun h s → All IsOrdered (all_serials s)
past-ordered pending h s past =
    All-map IsOrdered (λ (sub : Subchannel). sub.state.serials) s.subs
    (All-weaker IsPendingUncleared (λ (sub : Subchannel). IsOrdered sub.state.serials) (λ sub k. k.order) s.subs (pending past.0.0 h s (past.1 past.0.0 past.0.1)))

ordered-in : (subs : List Subchannel) (index : ℕ) (o : Option Subchannel) → All IsPendingUncleared subs → slice_get subs index ≡ o → IsOrdered (serials_of o)
ordered-in subs index None all e = omega arith
ordered-in subs index (Some sub) all e =
    (All-contains IsPendingUncleared subs sub all (index, slice_get_within subs index sub e, get_or_from_slice_get subs index sub sub e)).order

ordered-at : (subs : List Subchannel) (p : Option ℕ) → All IsPendingUncleared subs → IsOrdered (serials_of (sub_at subs p))
ordered-at subs None all = omega arith
ordered-at subs (Some index) all = ordered-in subs index (slice_get subs index) all refl

answered : (k : ConditionCode) (x : Serials) → IsOrdered x → IfSome (serials_brought (Some (answer_of_code k x))) IsOrdered
answered code.Zero x h = h
answered code.One x h = h
answered code.Two x h = tt
answered code.Three x h = tt

brings : (s : State) (e : Event) (r : Reply) (new : State) → IsByTable s e r new → All IsPendingUncleared new.subs → BringsOrdered e r
brings s (event.Execute cpu i) r new table all =
    subst (λ (a : Option Answer). IfSome (serials_brought a) IsOrdered) (sym table)
    (answered (code_by i (condition_of (state_of (sub_of s (subchannel_word i))))) (serials_of (sub_of new (subchannel_word i)))
    (ordered-at new.subs (index_of new (subchannel_word i)) all))
brings s e r new table all = tt

pub performed-brings : StandsPending → GoesByTable → (h : List Entry) (old : State) (e : Event) (a : Result Reply Fault) (new : State) → HasRun h old →
    Performs old e a new → IfOk a (λ r. BringsOrdered e r)
performed-brings pending table h old e (Ok r) new past step =
    brings old e r new (table old e r new step) (pending past.0.0 (h ++ record { event = e; reply = r } ∷ []) new (Stepped h old e r new (past.1 past.0.0 past.0.1) step))
performed-brings pending table h old e (Err f) new past refused = tt
