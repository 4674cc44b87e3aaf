-- A reset that isn't yet taken stays so in a step, but where the unit takes it.
use Rattle.std.proofs.Common.{◌≡◌, ◌≢◌, refl, sym, ◌∙◌, ap, subst, ℕ, ◌==◌, Bool, true, false, Option, None, Some, Result, Ok, List, inl, inr}
use Rattle.std.specs.Prelude.{◌⊎◌, map, slice_get, slice_set, IfOk}
use Rattle.std.proofs.lemmas.Bool.{eqb-true, and_parts}
use Rattle.chan_events.specs.Events.{Event}
use Rattle.chan_events.specs.declared.event.Event.TheVariants as event
use Rattle.chan_events.specs.declared.event.Instruction.TheVariants as instruction
use Rattle.chan_events.specs.declared.event.UnitAct.{UnitAct}
use Rattle.chan_model.specs.declared.fault.Fault.{Fault}
use Rattle.chan_model.specs.declared.hold_state.HoldState.{HoldState}
use Rattle.chan_model.specs.declared.names.Side.{Side}
use Rattle.chan_events.specs.Replies.{Reply}
use Rattle.chan_events.specs.declared.reply.Entry.{Entry}
use Rattle.chan_model.specs.declared.unit_state.UnitState.{UnitState}
use Rattle.chan_model.specs.Agreement.{Agrees, IsOutstanding, owner_of}
use Rattle.chan_model.specs.Sides.{same_side}
use Rattle.chan_model.specs.UnitTable.{UnitStep, side_of, restarted}
use Rattle.chan_model.specs.UnitReports.{unit_reports}
use Rattle.channel_config.specs.Lawful.{IsLawful}
use Rattle.channel_config.specs.Setup.{Setup}
use Rattle.agreement_laws.specs.Claims.{IsResetDue, DoAgree}
use Rattle.agreement_laws.specs.Invariant.{IsGood}
use Rattle.agreement_laws.specs.Links.{Links, link_of, opening_links, Link}
use Rattle.subchannel_model.specs.declared.state.Subchannel.{Subchannel}
use Rattle.subchannel_model.specs.Choosing.{chosen, marked_sub}
use Rattle.subchannel_model.specs.Start.{started}
use Rattle.machine_model.specs.InstructionSteps.{function_sub}
use Rattle.machine_model.specs.State.{State, opening_of}
use Rattle.machine_model.specs.Results.{SubResult, UpResult, DownResult}
use Rattle.subchannel_model.specs.Sending.{carried_by, finds_full}
use Rattle.machine_model.specs.ReportSteps.{report_taken}
use Rattle.machine_model.specs.Steps.{Step, Run}
use Rattle.machine_model.specs.Sharing.{owing}
use Rattle.machine_model.specs.ActSteps.{has_path_of_act, acts, act_sub}
use Rattle.step_laws.specs.Walks as walked
use Rattle.machine_model.specs.declared.state.Sweep.{Sweep}
use Rattle.machine_model.specs.PathSteps.{swept}
use Rattle.step_laws.specs.Walks.{Walked, Suits, OneSub, OneUnit}
use Rattle.run_laws.specs.Agreeing.{IsEnd, IsDownTo, HoldEndsByReset}
use Rattle.run_laws.specs.Beginnings.{StartCounts, with_offer, with_taken, with_start}
use Rattle.run_laws.proofs.Machine.Growth.{IsLink, AreLaws}
use Rattle.run_laws.proofs.Machine.HoldEvents.{IsOfHold, up-turns, choose-turns, marked-turns}
use Rattle.run_laws.proofs.Machine.Swept.{swept-hold, swept-tells}
use Rattle.run_laws.proofs.Machine.Linked.{IsLinked, AreApart, AreLinked}
use Rattle.run_laws.proofs.Machine.Moves.{if-ok}
use Rattle.run_laws.proofs.Machine.RunAgrees.{start-hold, test-hold, modify-hold, function-hold, run-told}
use Rattle.run_laws.proofs.Machine.TraceEvents.{Tells, start-tells, test-tells, modify-tells, function-tells, choose-tells, marked-tells, up_sub-tells}
use Rattle.run_laws.proofs.Machine.UnitEvents.{Follows, IsKept, hold-kept, down-kept, report-kept, act-kept, owing-kept, acted_links, links-wider, restart-good, with_owed, owed-link, owed-due}
use Rattle.agreement_laws.specs.Moving.{Restarts}
use Rattle.step_laws.proofs.Marks.{marked-suits}
use Rattle.step_laws.proofs.Indices.{set-get, map-get}

-- what is due of links is due of the subchannel and the unit for which they stand
due-of : (w : Links) (side : Side) (h : HoldState) (u : UnitState) → (link_of w side).hold ≡ h → w.«unit» ≡ u → IsResetDue w side → IsOutstanding h.phase (side_of u side)
due-of w side h u e f d =
    subst (λ (v : UnitState). IsOutstanding h.phase (side_of v side)) f (subst (λ (x : HoldState). IsOutstanding x.phase (side_of w.«unit» side)) e d)

due-for : (w : Links) (side : Side) (h : HoldState) (u : UnitState) → (link_of w side).hold ≡ h → w.«unit» ≡ u → IsOutstanding h.phase (side_of u side) → IsResetDue w side
due-for w side h u e f d =
    subst (λ (x : HoldState). IsOutstanding x.phase (side_of w.«unit» side)) (sym e) (subst (λ (v : UnitState). IsOutstanding h.phase (side_of v side)) (sym f) d)

agree-of : (w : Links) (side : Side) (h : HoldState) (u : UnitState) → (link_of w side).hold ≡ h → w.«unit» ≡ u → DoAgree w side → Agrees h.phase (owner_of u.own side)
agree-of w side h u e f d =
    subst (λ (v : UnitState). Agrees h.phase (owner_of v.own side)) f (subst (λ (x : HoldState). Agrees x.phase (owner_of w.«unit».own side)) e d)

-- the subchannel of the event
kept-ends : (T : Type 0) (subs : List Subchannel) (at index : ℕ) (sub after : Subchannel) (u v : UnitState) (which : Option ℕ) (k mine : StartCounts) → IsLinked subs at u which k →
    slice_get subs index ≡ Some sub → sub.setup.«unit» ≡ at → IsKept T sub after u v k mine → IsOutstanding sub.state.hold.phase (side_of u sub.setup.side) →
    IsOutstanding after.state.hold.phase (side_of v sub.setup.side) ⊎ (T × Agrees after.state.hold.phase (owner_of v.own sub.setup.side))
kept-ends T subs at index sub after u v which k mine w e h kept d =
    let l : IsLink sub (link_of w.links sub.setup.side) = w.stand index sub e h in
    let f : Follows T w.links sub.setup.side sub after v k mine = kept.follows w.links w.good w.«unit» l in
    elim (f.ends sub.setup.side (due-for w.links sub.setup.side sub.state.hold u l.hold w.«unit» d)) [
      | inl z ↦ inl (due-of f.links sub.setup.side after.state.hold v f.here.hold f.«unit» z)
      | inr q ↦ inr (q.1, agree-of f.links sub.setup.side after.state.hold v f.here.hold f.«unit» q.2)
    ]

-- that of the other side of its unit
not-true : (b : Bool) → (b ≡ true → ⊥) → b ≡ false
not-true true n = absurd (n refl)
not-true false n = refl

other-ends : (T : Type 0) (subs : List Subchannel) (at index i : ℕ) (sub after x : Subchannel) (u v : UnitState) (which : Option ℕ) (k mine : StartCounts) → AreApart subs → IsLinked subs at u which k →
    slice_get subs index ≡ Some sub → sub.setup.«unit» ≡ at → slice_get subs i ≡ Some x → x.setup.«unit» ≡ at → i ≢ index → IsKept T sub after u v k mine →
    IsOutstanding x.state.hold.phase (side_of u x.setup.side) → IsOutstanding x.state.hold.phase (side_of v x.setup.side)
other-ends T subs at index i sub after x u v which k mine apart w e h ex hx n kept d =
    let l : IsLink sub (link_of w.links sub.setup.side) = w.stand index sub e h in
    let m : IsLink x (link_of w.links x.setup.side) = w.stand i x ex hx in
    let f : Follows T w.links sub.setup.side sub after v k mine = kept.follows w.links w.good w.«unit» l in
    let not : same_side sub.setup.side x.setup.side ≡ true → ⊥ = λ s. n (sym (apart index i sub x e ex (h ∙ sym hx) s)) in
    let other : same_side sub.setup.side x.setup.side ≡ false = not-true (same_side sub.setup.side x.setup.side) not in
    elim (f.ends x.setup.side (due-for w.links x.setup.side x.state.hold u m.hold w.«unit» d)) [
      | inl z ↦ due-of f.links x.setup.side x.state.hold v ((f.there x.setup.side other).hold ∙ m.hold) f.«unit» z
      | inr q ↦ absurd (not q.0)
    ]

-- a report, and an act of the unit, end no reset
none-ends : (sub : Subchannel) (u : UnitState) (step : Option UnitStep) → IfOk (report_taken sub step) (λ t. IsEnd sub u t.reply → ⊥)
none-ends sub u None = tt
none-ends sub u (Some step) = if-ok (λ t. IsEnd sub u t.reply → ⊥) (finds_full sub.wires.up (carried_by sub step.sent)) _ _ tt (λ z. z)

no-end : (sub : Subchannel) (u : UnitState) (step : Option UnitStep) (t : DownResult) → report_taken sub step ≡ Ok t → IsEnd sub u t.reply → ⊥
no-end sub u step t h z = subst (λ (r : Result DownResult Fault). IfOk r (λ t. IsEnd sub u t.reply → ⊥)) h (none-ends sub u step) z

no-act-end : (sub : Subchannel) (u : UnitState) (what : UnitAct) (t : DownResult) → act_sub sub u what ≡ Ok t → IsEnd sub u t.reply → ⊥
no-act-end sub u what t h z =
    subst (λ (r : Result DownResult Fault). IfOk r (λ t. IsEnd sub u t.reply → ⊥)) h
    (if-ok (λ t. IsEnd sub u t.reply → ⊥) (has_path_of_act sub what) (report_taken sub (acts u sub.setup.side what)) _ (none-ends sub u (acts u sub.setup.side what)) tt) z

some-same : {A : Type 0} (o : Option A) (x y : A) → o ≡ Some x → o ≡ Some y → x ≡ y
some-same o x y e f = cc (sym e ∙ f)

module _ (laws : AreLaws) (s : State) (which : Option ℕ) (k : StartCounts) (linked : AreLinked s.subs s.units which k) where
  -- an event at one subchannel
  sub-ends : (e : Event) (r : Reply) (new : State) (at : ℕ) (sub after : Subchannel) (mine : StartCounts) → OneSub s new at sub after → IsOfHold sub after → Tells sub after.state k mine →
      HoldEndsByReset s e r new
  sub-ends e r new at sub after mine o h f i x y u v ex ey eu ev d =
      let got : slice_get (slice_set s.subs at after) i ≡ Some y = subst (λ (xs : List Subchannel). slice_get xs i ≡ Some y) o.subs ey in
      let same : u ≡ v = some-same (slice_get s.units x.setup.«unit») u v eu (subst (λ (us : List UnitState). slice_get us x.setup.«unit» ≡ Some v) o.units ev) in
      elim (set-get s.subs at after i y got) [
        | inl p ↦
            let is : sub ≡ x = some-same (slice_get s.subs i) sub x (ap (λ (j : ℕ). slice_get s.subs j) p.0 ∙ o.there) ex in
            let kept : IsKept ⊥ x after u u k mine = subst (λ (z : Subchannel). IsKept ⊥ z after u u k mine) is (hold-kept laws sub after u k mine h f) in
            elim (kept-ends ⊥ s.subs x.setup.«unit» i x after u u which k mine (linked.linked x.setup.«unit» u eu) ex refl kept d) [
              | inl z ↦ inl (subst (λ (w : UnitState). IsOutstanding y.state.hold.phase (side_of w x.setup.side)) same
                  (subst (λ (w : Subchannel). IsOutstanding w.state.hold.phase (side_of u x.setup.side)) (sym p.1) z))
              | inr q ↦ absurd q.0
            ]
        | inr p ↦
            let is : x ≡ y = some-same (slice_get s.subs i) x y ex p.1 in
            inl (subst (λ (w : UnitState). IsOutstanding y.state.hold.phase (side_of w x.setup.side)) same
            (subst (λ (w : Subchannel). IsOutstanding w.state.hold.phase (side_of u x.setup.side)) is d))
      ]

  -- an event at one subchannel and its unit
  unit-ends : (e : Event) (r : Reply) (new : State) (at j : ℕ) (sub after : Subchannel) (a b : UnitState) (mine : StartCounts) → OneUnit s new at sub after j a b → j ≡ sub.setup.«unit» →
      IsKept (IsEnd sub a r) sub after a b k mine → (IsEnd sub a r → IsDownTo s e at) → HoldEndsByReset s e r new
  unit-ends e r new at j sub after a b mine o its kept down i x y u v ex ey eu ev d =
      let got : slice_get (slice_set s.subs at after) i ≡ Some y = subst (λ (xs : List Subchannel). slice_get xs i ≡ Some y) o.subs ey in
      let now : slice_get (slice_set s.units j b) x.setup.«unit» ≡ Some v = subst (λ (us : List UnitState). slice_get us x.setup.«unit» ≡ Some v) o.units ev in
      elim (set-get s.subs at after i y got) [
        | inl p ↦
            let is : sub ≡ x = some-same (slice_get s.subs i) sub x (ap (λ (n : ℕ). slice_get s.subs n) p.0 ∙ o.there) ex in
            let mine_is : j ≡ x.setup.«unit» = its ∙ ap (λ (z : Subchannel). z.setup.«unit») is in
            elim (set-get s.units j b x.setup.«unit» v now) [
              | inl q ↦
                  let was : a ≡ u = some-same (slice_get s.units x.setup.«unit») a u (ap (λ (n : ℕ). slice_get s.units n) (sym mine_is) ∙ o.found) eu in
                  let kept_x : IsKept (IsEnd x u r) x after u b k mine =
                  subst (λ (w : UnitState). IsKept (IsEnd x w r) x after w b k mine) was (subst (λ (z : Subchannel). IsKept (IsEnd z a r) z after a b k mine) is kept) in
                  elim (kept-ends (IsEnd x u r) s.subs x.setup.«unit» i x after u b which k mine (linked.linked x.setup.«unit» u eu) ex refl kept_x d) [
                    | inl z ↦ inl (subst (λ (w : UnitState). IsOutstanding y.state.hold.phase (side_of w x.setup.side)) (sym q.1)
                        (subst (λ (w : Subchannel). IsOutstanding w.state.hold.phase (side_of b x.setup.side)) (sym p.1) z))
                    | inr z ↦ inr (
                      subst (λ (n : ℕ). IsDownTo s e n) (sym p.0) (down (subst (λ (w : UnitState). IsEnd sub w r) (sym was) (subst (λ (w : Subchannel). IsEnd w u r) (sym is) z.0))),
                      z.0,
                      subst (λ (w : UnitState). Agrees y.state.hold.phase (owner_of w.own x.setup.side)) (sym q.1)
                          (subst (λ (w : Subchannel). Agrees w.state.hold.phase (owner_of b.own x.setup.side)) (sym p.1) z.1),
                    )
                  ]
              | inr q ↦ absurd (q.0 (sym mine_is))
            ]
        | inr p ↦
            let is : x ≡ y = some-same (slice_get s.subs i) x y ex p.1 in
            inl (subst (λ (w : Subchannel). IsOutstanding w.state.hold.phase (side_of v x.setup.side)) is
            (elim (set-get s.units j b x.setup.«unit» v now) [
              | inl q ↦
                  let was : a ≡ u = some-same (slice_get s.units x.setup.«unit») a u (ap (λ (n : ℕ). slice_get s.units n) q.0 ∙ o.found) eu in
                  subst (λ (w : UnitState). IsOutstanding x.state.hold.phase (side_of w x.setup.side)) (sym q.1)
                  (other-ends (IsEnd sub u r) s.subs x.setup.«unit» at i sub after x u b which k mine linked.apart (linked.linked x.setup.«unit» u eu) o.there (sym its ∙ sym q.0) ex refl p.0
                  (subst (λ (w : UnitState). IsKept (IsEnd sub w r) sub after w b k mine) was kept) d)
              | inr q ↦ subst (λ (w : UnitState). IsOutstanding x.state.hold.phase (side_of w x.setup.side)) (some-same (slice_get s.units x.setup.«unit») u v eu q.1) d
            ]))
      ]

  -- a unit alone
  restart-ends : (e : Event) (r : Reply) (new : State) (at : ℕ) (owed : Bool) (a : UnitState) → slice_get s.units at ≡ Some a → new.subs ≡ s.subs →
      new.units ≡ slice_set s.units at (owing owed (restarted a)) → HoldEndsByReset s e r new
  restart-ends e r new at owed a found subs units i x y u v ex ey eu ev d =
      let is : x ≡ y = some-same (slice_get s.subs i) x y ex (subst (λ (xs : List Subchannel). slice_get xs i ≡ Some y) subs ey) in
      inl (subst (λ (w : Subchannel). IsOutstanding w.state.hold.phase (side_of v x.setup.side)) is
      (elim (set-get s.units at (owing owed (restarted a)) x.setup.«unit» v (subst (λ (us : List UnitState). slice_get us x.setup.«unit» ≡ Some v) units ev)) [
        | inl q ↦
            let was : u ≡ a = some-same (slice_get s.units x.setup.«unit») u a eu (ap (λ (n : ℕ). slice_get s.units n) q.0 ∙ found) in
            let l : IsLinked s.subs x.setup.«unit» u which k = linked.linked x.setup.«unit» u eu in
            let m : IsLink x (link_of l.links x.setup.side) = l.stand i x ex refl in
            let w : Links = with_owed owed (acted_links l.links Restarts) in
            due-of w x.setup.side x.state.hold v
            (ap (λ (n : Link). n.hold) (owed-link owed (acted_links l.links Restarts) x.setup.side) ∙ ((links-wider l.links Restarts x.setup.side).hold ∙ m.hold))
            (ap (λ (n : UnitState). owing owed (restarted n)) (l.«unit» ∙ was) ∙ sym q.1)
            (owed-due owed (acted_links l.links Restarts) x.setup.side
            ((restart-good laws l.links l.good).1 x.setup.side (due-for l.links x.setup.side x.state.hold u m.hold l.«unit» d)))
        | inr q ↦ subst (λ (w : UnitState). IsOutstanding x.state.hold.phase (side_of w x.setup.side)) (some-same (slice_get s.units x.setup.«unit») u v eu q.1) d
      ]))

  -- all subchannels
  swept-ends : (e : Event) (r : Reply) (new : State) (what : Sweep) → new.subs ≡ map (swept what) s.subs → new.units ≡ s.units → HoldEndsByReset s e r new
  swept-ends e r new what subs units i x y u v ex ey eu ev d =
      let got : (z : Subchannel) × (slice_get s.subs i ≡ Some z) × (swept what z ≡ y) =
      map-get (swept what) s.subs i y (subst (λ (xs : List Subchannel). slice_get xs i ≡ Some y) subs ey) in
      let is : swept what x ≡ y = ap (swept what) (some-same (slice_get s.subs i) x got.0 ex got.1) ∙ got.2 in
      let same : u ≡ v = some-same (slice_get s.units x.setup.«unit») u v eu (subst (λ (us : List UnitState). slice_get us x.setup.«unit» ≡ Some v) units ev) in
      let kept : IsKept ⊥ x (swept what x) u u k k = hold-kept laws x (swept what x) u k k (swept-hold laws.keeps what x) (swept-tells what x k) in
      elim (kept-ends ⊥ s.subs x.setup.«unit» i x (swept what x) u u which k k (linked.linked x.setup.«unit» u eu) ex refl kept d) [
        | inl z ↦ inl (subst (λ (w : UnitState). IsOutstanding y.state.hold.phase (side_of w x.setup.side)) same
            (subst (λ (w : Subchannel). IsOutstanding w.state.hold.phase (side_of u x.setup.side)) is z))
        | inr q ↦ absurd q.0
      ]

  pub ends-walk : (e : Event) (r : Reply) (new : State) → Walked s e r new → HoldEndsByReset s e r new
  ends-walk _ _ _ (walked.Stays e r new q sets subs units up) = λ i x y u v ex ey eu ev d.
      inl (subst (λ (w : UnitState). IsOutstanding y.state.hold.phase (side_of w x.setup.side))
      (some-same (slice_get s.units x.setup.«unit») u v eu (subst (λ (us : List UnitState). slice_get us x.setup.«unit» ≡ Some v) units ev))
      (subst (λ (w : Subchannel). IsOutstanding w.state.hold.phase (side_of u x.setup.side))
      (some-same (slice_get s.subs i) x y ex (subst (λ (xs : List Subchannel). slice_get xs i ≡ Some y) subs ey)) d))
  ends-walk _ _ _ (walked.Started cpu word address index sub orb c new n o) = sub-ends (event.Execute cpu (instruction.Ssch word address)) (function_sub sub c (started sub.state orb)).reply new index sub _ (with_start (function_sub sub c (started sub.state orb)).reply k) o (start-hold sub orb c) (start-tells sub orb c k)
  ends-walk _ _ _ (walked.Tested e r index sub c new q o address by answers) = sub-ends e r new index sub _ k o (test-hold sub c) (test-tells sub c k)
  ends-walk _ _ _ (walked.Modified e r index sub given c new q o) = sub-ends e r new index sub _ k o (modify-hold sub given c) (modify-tells sub given c k)
  ends-walk _ _ _ (walked.Performed e r index sub f c new q o by answers) = sub-ends e r new index sub _ k o (function-hold laws sub f c) (function-tells sub f c k)
  ends-walk _ _ _ (walked.Chosen word index sub choice t new n x w h o) =
      let marked : Subchannel = marked_sub sub choice in
      let fit : Suits (chosen sub choice) marked.state = marked-suits (chosen sub choice) sub.state marked.state.pmcw marked.state.scsw w in
      sub-ends (event.Choose word) _ new index sub t.sub (with_offer t.reply k) o
      (marked-turns sub t.sub choice (subst (λ (r : Result SubResult Fault). IfOk r (λ t. IsOfHold marked t.sub)) h (choose-turns laws.keeps marked (chosen sub choice) fit.fits)))
      (marked-tells sub choice t.sub.state k (with_offer t.reply k)
      (subst (λ (r : Result SubResult Fault). IfOk r (λ t. Tells marked t.sub.state k (with_offer t.reply k))) h (choose-tells marked (chosen sub choice) k fit.fits fit.found)))
  ends-walk _ _ _ (walked.Met word path returns index sub t new n h o may) =
      sub-ends (event.Up word path) _ new index sub t.sub k o
      (subst (λ (r : Result UpResult Fault). IfOk r (λ t. IsOfHold sub t.sub)) h (up-turns laws.keeps returns s.storage sub path))
      (subst (λ (r : Result UpResult Fault). IfOk r (λ t. Tells sub t.sub.state k k)) h (up_sub-tells returns s.storage sub path k))
  ends-walk _ _ _ (walked.Sunk word path may owed index sub u t new n h o) =
      unit-ends (event.Down word path) _ new index sub.setup.«unit» sub t.sub u (owing owed t.«unit») (with_taken t.reply k) o refl
      (owing-kept _ owed sub t.sub u t.«unit» k (with_taken t.reply k)
      (subst (λ (r : Result DownResult Fault). IfOk r (λ t. IsKept (IsEnd sub u t.reply) sub t.sub u t.«unit» k (with_taken t.reply k))) h (down-kept laws may sub path u k)))
      (λ z. n)
  ends-walk _ _ _ (walked.Reported at index sub u report t new n reached h o) =
      let both : ((sub.setup.«unit» == at) ≡ true) × (same_side sub.setup.side report.side ≡ true) = and_parts (sub.setup.«unit» == at) (same_side sub.setup.side report.side) reached in
      unit-ends (event.Report at report) _ new index at sub t.sub u t.«unit» k o (sym (eqb-true sub.setup.«unit» at both.0))
      (subst (λ (r : Result DownResult Fault). IfOk r (λ t. IsKept (IsEnd sub u t.reply) sub t.sub u t.«unit» k k)) h (report-kept laws sub u report k both.1))
      (λ z. absurd (no-end sub u (unit_reports u report) t h z))
  ends-walk _ _ _ (walked.Acted at index sub u what t new side its h o) =
      unit-ends (event.Act at what) _ new index at sub t.sub u t.«unit» k o (sym its)
      (subst (λ (r : Result DownResult Fault). IfOk r (λ t. IsKept (IsEnd sub u t.reply) sub t.sub u t.«unit» k k)) h (act-kept laws sub u what k side))
      (λ z. absurd (no-act-end sub u what t h z))
  ends-walk _ _ _ (walked.Restarted at owed u r new found sets subs units up) = restart-ends (event.Restart at) r new at owed u found subs units
  ends-walk _ _ _ (walked.Swept e r what new q sets subs units by) = swept-ends e r new what subs units

pub run-ends : IsGood opening_links → AreLaws → (setup : Setup) (h : List Entry) (s : State) (e : Event) (r : Reply) (new : State) → IsLawful setup → Run (opening_of setup) h s → Step s e r new →
    HoldEndsByReset s e r new
run-ends good laws setup h s e r new lawful run step =
    let told = run-told laws setup (record { set = 0; number = 0 }) h s lawful good run in
    ends-walk laws s _ _ told.1.linked e r new (laws.walks s e r new step)
