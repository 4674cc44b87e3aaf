-- The address and the count of the status that a step makes in which no signal comes up.
use Rattle.std.proofs.Common.{◌≡◌, refl, sym, ◌∙◌, ap, subst, arith, ℕ, Bool, true, false, Option, None, Some, List, Result, inl, inr}
use Rattle.std.specs.Prelude.{slice_get, slice_set, if◌then◌else◌, IfOk}
use Rattle.chan_events.specs.Events.{Event}
use Rattle.chan_events.specs.declared.event.Event.TheVariants as event
use Rattle.chan_events.specs.declared.event.Instruction.TheVariants as instruction
use Rattle.chan_events.specs.Replies.{Reply}
use Rattle.chan_model.specs.declared.answer.ConditionCode.{ConditionCode}
use Rattle.chan_model.specs.declared.answer.ConditionCode.TheVariants as code
use Rattle.chan_model.specs.declared.fault.Fault.{Fault}
use Rattle.subchannel_model.specs.declared.state.Chosen.{Chosen}
use Rattle.subchannel_model.specs.declared.state.Subchannel.{Subchannel}
use Rattle.subchannel_model.specs.declared.state.SubchannelState.{SubchannelState}
use Rattle.subchannel_model.specs.Halt.{halt_begun, drops_status, status_dropped}
use Rattle.subchannel_model.specs.Modify.{modified_state}
use Rattle.subchannel_model.specs.Programs.{without_programs}
use Rattle.subchannel_model.specs.Start.{started}
use Rattle.subchannel_model.specs.Test.{ends_suspended, tested, tested_wholly}
use Rattle.machine_model.specs.InstructionSteps.{function_sub, test_with}
use Rattle.machine_model.specs.PathSteps.{swept}
use Rattle.machine_model.specs.State.{State}
use Rattle.machine_model.specs.Results.{DownResult}
use Rattle.step_laws.specs.Walks as walked
use Rattle.step_laws.specs.Walks.{Walked, Function, IsQuiet, effect_of}
use Rattle.step_laws.proofs.Indices.{set-get, map-get}
use Rattle.run_laws.specs.Shows.{IsZeroShown, IsShownOf}
use Rattle.run_laws.specs.Tells.{ShowsBy, AtIndex, IsShownOfChoice}
use Rattle.run_laws.specs.Traces.{ProgramTrace}
use Rattle.run_laws.proofs.Traces.Holds.{HeldBy}
use Rattle.run_laws.proofs.Statuses.StatusCounts.{none-left, none-counted, clear_of, ChooseShows, chosen-shows, of-program, swept-shows}
use Rattle.run_laws.proofs.Traces.Turns.{IsSameSub, down-same, report-same}
use Rattle.run_laws.proofs.Units.UnitActs.{IsActed, act-acted}

-- those of a program, unless a clear is performed and they are zero
by-choice : (clear : Option Chosen) (s next : SubchannelState) (k : Option ProgramTrace) → IsShownOf s next k → IsZeroShown s next → IsShownOfChoice clear s next k
by-choice None s next k i z = i
by-choice (Some c) s next k i z = z

by-event : (e : Event) (s next : SubchannelState) (k : Option ProgramTrace) → IsShownOf s next k → ((word : ℕ) → e ≡ event.Choose word → IsZeroShown s next) → ShowsBy e s next k
by-event (event.Choose word) s next k i z = by-choice (clear_of s) s next k i (z word refl)
by-event e s next k i z = i

-- no status is made
none-zero : (s next : SubchannelState) → next.serials.made ≡ s.serials.made → IsZeroShown s next
none-zero s next m = λ l. absurd (omega (arith, m, l))

none-made : (e : Event) (s next : SubchannelState) (k : Option ProgramTrace) → next.serials.made ≡ s.serials.made → ShowsBy e s next k
none-made e s next None m = by-event e s next None (none-left s next m) (λ word is. none-zero s next m)
none-made e s next (Some k) m = by-event e s next (Some k) (none-counted s next k m) (λ word is. none-zero s next m)

-- no instruction makes any
tested-made : (s : SubchannelState) → (tested_wholly s).serials.made ≡ s.serials.made
tested-made s = by (ends_suspended s.scsw)
  where
    by : (b : Bool) → (if b then without_programs (tested s) else tested s).serials.made ≡ s.serials.made
    by true = refl
    by false = refl

test-made : (sub : Subchannel) (c : ConditionCode) → (test_with sub c).sub.state.serials.made ≡ sub.state.serials.made
test-made sub code.Zero = tested-made sub.state
test-made sub c = refl

effect-made : (f : Function) (s : SubchannelState) → (effect_of f s).serials.made ≡ s.serials.made
effect-made walked.Resumes s = refl
effect-made walked.Halts s = by (drops_status s.scsw)
  where
    by : (b : Bool) → (if b then status_dropped (halt_begun s) else halt_begun s).serials.made ≡ s.serials.made
    by true = refl
    by false = refl
effect-made walked.Clears s = refl
effect-made walked.Cancels s = refl

function-made : (sub : Subchannel) (c : ConditionCode) (effect : SubchannelState) → effect.serials.made ≡ sub.state.serials.made →
    (function_sub sub c effect).sub.state.serials.made ≡ sub.state.serials.made
function-made sub code.Zero effect e = e
function-made sub c effect e = refl

module _ (s : State) (index : ℕ) where
  -- where the subchannels stay, and where one was changed
  all-stay : (new : State) (P : SubchannelState → SubchannelState → Type 0) → new.subs ≡ s.subs → ((x : SubchannelState) → P x x) → AtIndex index s new P
  all-stay new P subs same x next f g =
      let is : x ≡ next = cc (sym f ∙ subst (λ (xs : List Subchannel). slice_get xs index ≡ Some next) subs g) in
      subst (λ (y : Subchannel). P x.state y.state) is (same x.state)

  one-changes : (new : State) (at : ℕ) (sub after : Subchannel) (P : SubchannelState → SubchannelState → Type 0) → slice_get s.subs at ≡ Some sub →
      new.subs ≡ slice_set s.subs at after → (slice_get s.subs index ≡ Some sub → P sub.state after.state) → ((x : SubchannelState) → P x x) → AtIndex index s new P
  one-changes new at sub after P there subs mine same x next f g =
      elim (set-get s.subs at after index next (subst (λ (xs : List Subchannel). slice_get xs index ≡ Some next) subs g)) [
        | inl w ↦
            let here : slice_get s.subs index ≡ Some sub = subst (λ (i : ℕ). slice_get s.subs i ≡ Some sub) (sym w.0) there in
            let was : sub ≡ x = cc (sym here ∙ f) in
            subst (λ (y : Subchannel). P y.state next.state) was (subst (λ (y : Subchannel). P sub.state y.state) (sym w.1) (mine here))
        | inr w ↦ let is : x ≡ next = cc (sym f ∙ w.1) in subst (λ (y : Subchannel). P x.state y.state) is (same x.state)
      ]

  module _ (k : Option ProgramTrace) (held : (sub : Subchannel) → slice_get s.subs index ≡ Some sub → HeldBy sub.state k) where
    abbrev AllShow : Event → State → Type 0
    AllShow e new = AtIndex index s new (λ x y. ShowsBy e x y k)

    unshown : (e : Event) (new : State) → new.subs ≡ s.subs → AllShow e new
    unshown e new subs = all-stay new (λ x y. ShowsBy e x y k) subs (λ x. none-made e x x k refl)

    one-unshown : (e : Event) (new : State) (at : ℕ) (sub after : Subchannel) → slice_get s.subs at ≡ Some sub → new.subs ≡ slice_set s.subs at after →
        after.state.serials.made ≡ sub.state.serials.made → AllShow e new
    one-unshown e new at sub after there subs m =
        one-changes new at sub after (λ x y. ShowsBy e x y k) there subs (λ here. none-made e sub.state after.state k m) (λ x. none-made e x x k refl)

    choose-by : (clear : Option Chosen) (x y : SubchannelState) → HeldBy x k → ChooseShows clear x y → IsShownOfChoice clear x y k
    choose-by None x y h f = of-program x y k h f
    choose-by (Some c) x y h f = f

    state-made : (sub x : Subchannel) → IsSameSub sub x → x.state.serials.made ≡ sub.state.serials.made
    state-made sub x same = ap (λ (y : SubchannelState). y.serials.made) same.1

    pub walk-shows : (e : Event) (r : Reply) (new : State) → Walked s e r new → ((word path : ℕ) → e ≡ event.Up word path → ⊥) → AllShow e new
    walk-shows _ _ _ (walked.Stays e r new q sets subs units up) n = unshown e new subs
    walk-shows _ _ _ (walked.Started cpu word address at sub orb c new named o) n =
        one-unshown (event.Execute cpu (instruction.Ssch word address)) new at sub _ o.there o.subs (function-made sub c (started sub.state orb) refl)
    walk-shows _ _ _ (walked.Tested e r at sub c new q o address by answers) n = one-unshown e new at sub _ o.there o.subs (test-made sub c)
    walk-shows _ _ _ (walked.Modified e r at sub given c new q o) n =
        one-unshown e new at sub _ o.there o.subs (function-made sub c (modified_state sub given) refl)
    walk-shows _ _ _ (walked.Performed e r at sub f c new q o by answers) n =
        one-unshown e new at sub _ o.there o.subs (function-made sub c (effect_of f sub.state) (effect-made f sub.state))
    walk-shows _ _ _ (walked.Chosen word at sub choice t new named picks suits h o) n =
        one-changes new at sub t.sub (λ x y. ShowsBy (event.Choose word) x y k) o.there o.subs
        (λ here. choose-by (clear_of sub.state) sub.state t.sub.state (held sub here) (chosen-shows sub choice t h)) (λ x. none-made (event.Choose word) x x k refl)
    walk-shows _ _ _ (walked.Met word path returns at sub t new named h o may) n = absurd (n word path refl)
    walk-shows _ _ _ (walked.Sunk word path may owed at sub u t new named h o) n =
        one-unshown (event.Down word path) new at sub t.sub o.there o.subs
        (state-made sub t.sub (subst (λ (r : Result DownResult Fault). IfOk r (λ t. IsSameSub sub t.sub)) h (down-same may sub path u)))
    walk-shows _ _ _ (walked.Reported i at sub u report t new found reached h o) n =
        one-unshown (event.Report i report) new at sub t.sub o.there o.subs
        (state-made sub t.sub (subst (λ (r : Result DownResult Fault). IfOk r (λ t. IsSameSub sub t.sub)) h (report-same sub u report)))
    walk-shows _ _ _ (walked.Acted i at sub u what t new side its h o) n =
        let acted : IsActed sub u t = subst (λ (r : Result DownResult Fault). IfOk r (IsActed sub u)) h (act-acted sub u what) in
        one-unshown (event.Act i what) new at sub t.sub o.there o.subs (ap (λ (x : Subchannel). x.state.serials.made) acted.sub_is)
    walk-shows _ _ _ (walked.Restarted i owed u r new found sets subs units up) n = unshown (event.Restart i) new subs
    walk-shows _ _ _ (walked.Swept e r what new q sets subs units by) n = λ x next f g.
        let a : (sub : Subchannel) × (slice_get s.subs index ≡ Some sub) × (swept what sub ≡ next) =
        map-get (swept what) s.subs index next (subst (λ (xs : List Subchannel). slice_get xs index ≡ Some next) subs g) in
        let was : a.0 ≡ x = cc (sym a.1 ∙ f) in
        subst (λ (y : Subchannel). ShowsBy e y.state next.state k) was
        (subst (λ (y : Subchannel). ShowsBy e a.0.state y.state k) a.2
        (by-event e a.0.state (swept what a.0).state k (of-program a.0.state (swept what a.0).state k (held a.0 a.1) (swept-shows what a.0))
        (λ word is. absurd (subst (λ (x : Event). IsQuiet x r) is q))))
