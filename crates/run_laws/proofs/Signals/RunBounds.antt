-- After each run of a lawful set-up the signals of each subchannel and its unit are in order.
use Rattle.std.proofs.Common.{◌≡◌, refl, sym, ◌∙◌, ap, subst, ℕ, zero, suc, ◌<◌, nat_lt, Bool, true, false, Option, None, Some, Result, List, [], ◌∷◌, length, map, slice_get, slice_set, IfOk, if◌then◌else◌, inl, inr, arith}
use Rattle.std.proofs.lemmas.Option.{slice_get_within, get_or_from_slice_get}
use Rattle.chan_events.specs.Events.{Event}
use Rattle.chan_events.specs.declared.event.UnitAct.{UnitAct}
use Rattle.chan_events.specs.Replies.{Reply}
use Rattle.chan_model.specs.declared.fault.Fault.{Fault}
use Rattle.chan_model.specs.declared.names.Side.{Side}
use Rattle.chan_model.specs.declared.names.Side.TheVariants.{First, Second}
use Rattle.chan_model.specs.Reports.{Report}
use Rattle.chan_model.specs.Signals.{Down, Up}
use Rattle.chan_model.specs.declared.unit_state.UnitState.{UnitState}
use Rattle.chan_model.specs.Sides.{same_side}
use Rattle.chan_model.specs.UnitReports.{unit_reports}
use Rattle.chan_model.specs.UnitTable as unit_table
use Rattle.chan_model.specs.UnitTable.{UnitStep, unit_takes, unit_after, restarted}
use Rattle.channel_config.specs.declared.parts.SubchannelSetup.{SubchannelSetup}
use Rattle.channel_config.specs.declared.parts.UnitKind.{UnitKind}
use Rattle.channel_config.specs.Lawful.{IsLawful, IsPlaced}
use Rattle.channel_config.specs.Setup.{Setup, set_count}
use Rattle.storage_keys.specs.Storage.{Contents}
use Rattle.wires.specs.Queues.{queue}
use Rattle.subchannel_model.specs.declared.state.Subchannel.{Subchannel}
use Rattle.subchannel_model.specs.declared.state.UpStep.{UpStep}
use Rattle.subchannel_model.specs.Choosing.{chosen}
use Rattle.subchannel_model.specs.Opening.{opened}
use Rattle.subchannel_model.specs.Sending.{carried_by, finds_full}
use Rattle.subchannel_model.specs.Taking.{takes_up}
use Rattle.machine_model.specs.ActSteps.{has_path_of_act, acts, act_sub}
use Rattle.machine_model.specs.DownSteps.{down_front, down_sub}
use Rattle.machine_model.specs.PathSteps.{swept}
use Rattle.machine_model.specs.ReportSteps.{report_taken, report_sub}
use Rattle.machine_model.specs.Sharing.{owing}
use Rattle.machine_model.specs.State.{State, opening_of, idle_of}
use Rattle.machine_model.specs.Results.{SubResult, UpResult, DownResult}
use Rattle.machine_model.specs.UpSteps.{up_front, up_sub}
use Rattle.step_laws.proofs.Indices.{set-get, get-set, get-other, map-get, same-or-not, reached-there}
use Rattle.step_laws.specs.Walks as walked
use Rattle.step_laws.specs.Walks.{Walked, IsOfSide}
use Rattle.run_laws.proofs.Machine.Linked.{AreApart}
use Rattle.run_laws.specs.ByItsPath.{SeenPaths, connected_in, IsReplyRight}
use Rattle.run_laws.proofs.Machine.WaitingSignals.{Each}
use Rattle.run_laws.proofs.Signals.Lists.{none-wait}
use Rattle.run_laws.proofs.Signals.Meets.{Meets, takes-meets}
use Rattle.run_laws.proofs.Signals.Ties.{Ties, connects, meets-right}
use Rattle.run_laws.proofs.Signals.UnitMoves.{on_side, floor_of, IsLess, IsOther, other-less, takes-others, reports-others, acts-others}
use Rattle.run_laws.proofs.Signals.UnitSends.{Acts, takes-takes, reports-acts, acts-acts}
use Rattle.run_laws.proofs.Signals.Bounds.{IsUpBelow, IsDownBelow}
use Rattle.run_laws.proofs.Signals.BoundSteps.{bound-met, bound-less, suits-phase}
use Rattle.run_laws.proofs.Signals.UnitBounds.{bound-takes, bound-acts}
use Rattle.run_laws.proofs.Signals.Calms.{BoundSub, Same, offers, IsCalm, start-calm, test-calm, modify-calm, function-calm, marked-choose, swept-calm}
use Rattle.run_laws.proofs.Signals.Fits.{IsFit}

-- of one subchannel and its unit
abbrev pub BoundWith : Subchannel → UnitState → Type 0
BoundWith sub u = BoundSub sub (floor_of u sub.setup.side) (on_side u.own sub.setup.side)

abbrev pub BoundAt : List UnitState → Subchannel → Type 0
BoundAt units sub = (u : UnitState) × (slice_get units sub.setup.«unit» ≡ Some u) × BoundWith sub u

abbrev pub AreBound : List Subchannel → List UnitState → Type 0
AreBound subs units = (index : ℕ) (sub : Subchannel) → slice_get subs index ≡ Some sub → BoundAt units sub

abbrev pub AreFit : List Subchannel → List UnitState → Type 0
AreFit subs units = (index : ℕ) (sub : Subchannel) (u : UnitState) → slice_get subs index ≡ Some sub → slice_get units sub.setup.«unit» ≡ Some u → IsFit sub u

-- a signal that came up
abbrev pub IsUpRight : Subchannel → UnitState → ℕ → UpResult → Type 0
IsUpRight sub u path t =
    (t.sub.setup ≡ sub.setup) × BoundWith t.sub u
    × ((k : SeenPaths) → Ties sub.state.hold.phase k → IsReplyRight path t.reply k × Ties t.sub.state.hold.phase (connects k (connected_in path t.reply k.connected)))

if-ok : {A : Type 0} (P : A → Type 0) (b : Bool) (x y : Result A Fault) → IfOk x P → IfOk y P → IfOk (if b then x else y) P
if-ok P true x y e f = e
if-ok P false x y e f = f

front-right : (returns : Bool) (storage : Contents) (sub : Subchannel) (path : ℕ) (u : UnitState) (front : Option Up) → slice_get (queue sub.wires.up path) 0 ≡ front → IsFit sub u → BoundWith sub u →
    IfOk (up_front returns storage sub path front) (IsUpRight sub u path)
front-right returns storage sub path u None e fit b = tt
front-right returns storage sub path u (Some x) e fit b =
    let step : UpStep = (takes_up returns storage sub.state path x).step in
    let m : Meets path x sub.state.hold.phase step.outcome.taken step.outcome.sent step.state.hold.phase = takes-meets returns storage sub.state path x in
    if-ok (IsUpRight sub u path) (finds_full sub.wires.down (carried_by sub step.outcome.sent)) _ _ tt (
      refl,
      bound-met path x sub.state.hold.phase step.outcome.taken step.outcome.sent step.state.hold.phase sub.wires.up sub.wires.down (floor_of u sub.setup.side) (on_side u.own sub.setup.side)
          sub.state.pmcw.available m e (fit.back path x e) b,
      λ k t.
          meets-right path x sub.state.hold.phase step.outcome.taken step.outcome.sent step.state.hold.phase k m
          (suits-phase sub.state.hold.phase sub.wires.up sub.wires.down (on_side u.own sub.setup.side) path x e b.joint) t,
    )

pub up-right : (returns : Bool) (storage : Contents) (sub : Subchannel) (path : ℕ) (u : UnitState) → IsFit sub u → BoundWith sub u → IfOk (up_sub returns storage sub path) (IsUpRight sub u path)
up-right returns storage sub path u fit b =
    if-ok (IsUpRight sub u path) (nat_lt path (length sub.setup.paths)) (up_front returns storage sub path (slice_get (queue sub.wires.up path) 0)) _
    (front-right returns storage sub path u (slice_get (queue sub.wires.up path) 0) refl fit b) tt

-- a step of the unit
abbrev pub IsUnitRight : Subchannel → UnitState → DownResult → Type 0
IsUnitRight sub u t = (t.sub.setup ≡ sub.setup) × (t.sub.state ≡ sub.state) × BoundWith t.sub t.«unit» × IsOther u t.«unit» sub.setup.side

down_front-right : (may : Bool) (sub : Subchannel) (path : ℕ) (u : UnitState) (front : Option Down) → slice_get (queue sub.wires.down path) 0 ≡ front → IsFit sub u → BoundWith sub u →
    IfOk (down_front may sub path u front) (IsUnitRight sub u)
down_front-right may sub path u None e fit b = tt
down_front-right may sub path u (Some d) e fit b =
    let step : Option UnitStep = unit_takes u sub.setup.side path d may in
    if-ok (IsUnitRight sub u) (finds_full sub.wires.up (carried_by sub (unit_table.outcome_of step).sent)) _ _ tt (
      refl,
      refl,
      bound-takes sub.state.hold.phase sub.wires.up sub.wires.down sub.setup.side u path d (unit_table.outcome_of step).sent (unit_after u step) sub.state.pmcw.available
          (takes-takes sub.setup.side u path d may (fit.above path d e)) e (fit.select path d e) b,
      takes-others u sub.setup.side path d may,
    )

pub down-right : (may : Bool) (sub : Subchannel) (path : ℕ) (u : UnitState) → IsFit sub u → BoundWith sub u → IfOk (down_sub may sub path u) (IsUnitRight sub u)
down-right may sub path u fit b =
    if-ok (IsUnitRight sub u) (nat_lt path (length sub.setup.paths)) (down_front may sub path u (slice_get (queue sub.wires.down path) 0)) _
    (down_front-right may sub path u (slice_get (queue sub.wires.down path) 0) refl fit b) tt

step-right : (sub : Subchannel) (u : UnitState) (step : Option UnitStep) → Acts sub.setup.side u (unit_table.outcome_of step).sent (unit_after u step) → IsOther u (unit_after u step) sub.setup.side →
    IsFit sub u → BoundWith sub u → IfOk (report_taken sub step) (IsUnitRight sub u)
step-right sub u None acted other fit b = tt
step-right sub u (Some step) acted other fit b =
    if-ok (IsUnitRight sub u) (finds_full sub.wires.up (carried_by sub step.sent)) _ _ tt
    (refl, refl, bound-acts sub.state.hold.phase sub.wires.up sub.wires.down sub.setup.side u step.sent step.state sub.state.pmcw.available acted fit.placed b, other)

pub report-right : (sub : Subchannel) (u : UnitState) (r : Report) → sub.setup.side ≡ r.side → IsFit sub u → BoundWith sub u → IfOk (report_sub sub u r) (IsUnitRight sub u)
report-right sub u r e fit b =
    step-right sub u (unit_reports u r)
    (subst (λ (j : Side). Acts j u (unit_table.outcome_of (unit_reports u r)).sent (unit_after u (unit_reports u r))) (sym e) (reports-acts u r))
    (reports-others u sub.setup.side r) fit b

pub act-right : (sub : Subchannel) (u : UnitState) (what : UnitAct) → IsOfSide u sub.setup.side what → IsFit sub u → BoundWith sub u → IfOk (act_sub sub u what) (IsUnitRight sub u)
act-right sub u what its fit b =
    if-ok (IsUnitRight sub u) (has_path_of_act sub what) (report_taken sub (acts u sub.setup.side what)) _
    (step-right sub u (acts u sub.setup.side what) (acts-acts sub.setup.side u what its) (acts-others u sub.setup.side what its) fit b) tt

-- what a unit owes is nothing to it
owed-floor : (owed : Bool) (u : UnitState) (side : Side) → floor_of (owing owed u) side ≡ floor_of u side
owed-floor owed u First = refl
owed-floor owed u Second = refl

owed-less : (owed : Bool) (u : UnitState) (side : Side) → IsLess u (owing owed u) side
owed-less owed u side = record { floor = let e : floor_of (owing owed u) side ≡ floor_of u side = owed-floor owed u side in omega (arith, e); off = inl refl }

owed-other : (owed : Bool) (u v : UnitState) (side : Side) → IsOther u v side → IsOther u (owing owed v) side
owed-other owed u v side k = record { floor = λ j n. owed-floor owed v j ∙ k.floor j n; own = k.own }

restart-less : (owed : Bool) (u : UnitState) (side : Side) → IsLess u (owing owed (restarted u)) side
restart-less owed u First = record { floor = omega arith; off = inr refl }
restart-less owed u Second = record { floor = omega arith; off = inr refl }

bound-unit : (sub : Subchannel) (u v : UnitState) → IsLess u v sub.setup.side → BoundWith sub u → BoundWith sub v
bound-unit sub u v l b = bound-less sub.state.hold.phase sub.wires.up sub.wires.down sub.setup.side u v l b

-- one subchannel was changed, and no unit
sub-bound : (subs : List Subchannel) (units : List UnitState) (index : ℕ) (sub after : Subchannel) → slice_get subs index ≡ Some sub → after.setup ≡ sub.setup →
    ((u : UnitState) → slice_get units sub.setup.«unit» ≡ Some u → BoundWith sub u → BoundSub after (floor_of u sub.setup.side) (on_side u.own sub.setup.side)) → AreBound subs units →
    AreBound (slice_set subs index after) units
sub-bound subs units index sub after there same f b = λ i x e.
    elim (set-get subs index after i x e) [
      | inl p ↦
          let old : BoundAt units sub = b index sub there in
          subst (λ (y : Subchannel). BoundAt units y) (sym p.1) (
            old.0,
            ap (λ (s : SubchannelSetup). slice_get units s.«unit») same ∙ old.1,
            subst (λ (j : Side). BoundSub after (floor_of old.0 j) (on_side old.0.own j)) (sym (ap (λ (s : SubchannelSetup). s.side) same)) (f old.0 old.1 old.2),
          )
      | inr p ↦ b i x p.1
    ]

calm-bound : {g : SeenPaths → SeenPaths} → (subs : List Subchannel) (units : List UnitState) (index : ℕ) (sub after : Subchannel) → slice_get subs index ≡ Some sub → IsCalm g sub after → AreFit subs units → AreBound subs units →
    AreBound (slice_set subs index after) units
calm-bound subs units index sub after there m fit b =
    sub-bound subs units index sub after there m.setup
    (λ u found k. m.bound (floor_of u sub.setup.side) (on_side u.own sub.setup.side) (fit index sub u there found).drawn k) b

-- a subchannel and its unit were changed
not-true : (b : Bool) → (b ≡ true → ⊥) → b ≡ false
not-true true n = absurd (n refl)
not-true false n = refl

unit-bound : (subs : List Subchannel) (units : List UnitState) (index at : ℕ) (sub after : Subchannel) (u v : UnitState) → slice_get subs index ≡ Some sub → slice_get units at ≡ Some u →
    at ≡ sub.setup.«unit» → after.setup ≡ sub.setup → BoundSub after (floor_of v sub.setup.side) (on_side v.own sub.setup.side) → IsOther u v sub.setup.side → AreApart subs → AreBound subs units →
    AreBound (slice_set subs index after) (slice_set units at v)
unit-bound subs units index at sub after u v there found its same now other apart b = λ i x e.
    elim (set-get subs index after i x e) [
      | inl p ↦
          subst (λ (y : Subchannel). BoundAt (slice_set units at v) y) (sym p.1) (
            v,
            ap (λ (n : ℕ). slice_get (slice_set units at v) n) (ap (λ (s : SubchannelSetup). s.«unit») same ∙ sym its) ∙ get-set units at u v found,
            subst (λ (j : Side). BoundSub after (floor_of v j) (on_side v.own j)) (sym (ap (λ (s : SubchannelSetup). s.side) same)) now,
          )
      | inr p ↦
          let old : BoundAt units x = b i x p.1 in
          elim (same-or-not x.setup.«unit» at) [
            | inl h ↦
                let is : u ≡ old.0 = cc (sym found ∙ sym (ap (λ (n : ℕ). slice_get units n) h.0) ∙ old.1) in
                let n : same_side sub.setup.side x.setup.side ≡ false =
                not-true (same_side sub.setup.side x.setup.side) (λ q. p.0 (sym (apart index i sub x there p.1 (sym its ∙ sym h.0) q))) in (
                  v,
                  ap (λ (n : ℕ). slice_get (slice_set units at v) n) h.0 ∙ get-set units at u v found,
                  bound-unit x u v (other-less u v sub.setup.side x.setup.side other n) (subst (λ (w : UnitState). BoundWith x w) (sym is) old.2),
                )
            | inr h ↦ (old.0, get-other units at v x.setup.«unit» h.0 ∙ old.1, old.2)
          ]
    ]

-- a unit restarts
restart-bound : (owed : Bool) (subs : List Subchannel) (units : List UnitState) (at : ℕ) (u : UnitState) → slice_get units at ≡ Some u → AreBound subs units →
    AreBound subs (slice_set units at (owing owed (restarted u)))
restart-bound owed subs units at u found b = λ i x e.
    let v : UnitState = owing owed (restarted u) in
    let old : BoundAt units x = b i x e in
    elim (same-or-not x.setup.«unit» at) [
      | inl h ↦
          let is : u ≡ old.0 = cc (sym found ∙ sym (ap (λ (n : ℕ). slice_get units n) h.0) ∙ old.1) in (
            v,
            ap (λ (n : ℕ). slice_get (slice_set units at v) n) h.0 ∙ get-set units at u v found,
            bound-unit x u v (restart-less owed u x.setup.side) (subst (λ (w : UnitState). BoundWith x w) (sym is) old.2),
          )
      | inr h ↦ (old.0, get-other units at v x.setup.«unit» h.0 ∙ old.1, old.2)
    ]

-- each subchannel is swept
swept-bound : (f : Subchannel → Subchannel) → ((sub : Subchannel) → IsCalm Same sub (f sub)) → (subs : List Subchannel) (units : List UnitState) → AreFit subs units → AreBound subs units →
    AreBound (map f subs) units
swept-bound f calm subs units fit b = λ i x e.
    let p = map-get f subs i x e in
    let old : BoundAt units p.0 = b i p.0 p.1 in
    let m : IsCalm Same p.0 (f p.0) = calm p.0 in
    subst (λ (y : Subchannel). BoundAt units y) p.2 (
      old.0,
      ap (λ (s : SubchannelSetup). slice_get units s.«unit») m.setup ∙ old.1,
      subst (λ (j : Side). BoundSub (f p.0) (floor_of old.0 j) (on_side old.0.own j)) (sym (ap (λ (s : SubchannelSetup). s.side) m.setup))
          (m.bound (floor_of old.0 p.0.setup.side) (on_side old.0.own p.0.setup.side) (fit i p.0 old.0 p.1 old.1).drawn old.2),
    )

-- at the opening
pub opened-bound : (setup : SubchannelSetup) (kind : UnitKind) → BoundWith (opened setup) (idle_of kind)
opened-bound setup kind =
    let f : ℕ = floor_of (idle_of kind) setup.side in
    record {
      above = none-wait (λ p xs. Each (IsUpBelow f) xs) 8 (λ p. tt);
      below = none-wait (λ p xs. Each (IsDownBelow f) xs) 8 (λ p. tt);
      own = tt;
      joint = tt;
    }

-- the step of the whole
pub walked-bound : (s : State) (e : Event) (r : Reply) (new : State) → Walked s e r new → AreApart s.subs → AreFit s.subs s.units → AreBound s.subs s.units → AreBound new.subs new.units
walked-bound s _ _ _ (walked.Stays e r new q sets subs units up) apart fit b =
    subst (λ (xs : List UnitState). AreBound new.subs xs) (sym units) (subst (λ (xs : List Subchannel). AreBound xs s.units) (sym subs) b)
walked-bound s _ _ _ (walked.Started cpu word address index sub orb c new n one) apart fit b =
    subst (λ (xs : List UnitState). AreBound new.subs xs) (sym one.units) (subst (λ (xs : List Subchannel). AreBound xs s.units) (sym one.subs)
    (calm-bound s.subs s.units index sub _ one.there (start-calm sub orb c) fit b))
walked-bound s _ _ _ (walked.Tested e r index sub c new q one address by answers) apart fit b =
    subst (λ (xs : List UnitState). AreBound new.subs xs) (sym one.units) (subst (λ (xs : List Subchannel). AreBound xs s.units) (sym one.subs)
    (calm-bound s.subs s.units index sub _ one.there (test-calm sub c) fit b))
walked-bound s _ _ _ (walked.Modified e r index sub given c new q one) apart fit b =
    subst (λ (xs : List UnitState). AreBound new.subs xs) (sym one.units) (subst (λ (xs : List Subchannel). AreBound xs s.units) (sym one.subs)
    (calm-bound s.subs s.units index sub _ one.there (modify-calm sub given c) fit b))
walked-bound s _ _ _ (walked.Performed e r index sub f c new q one by answers) apart fit b =
    subst (λ (xs : List UnitState). AreBound new.subs xs) (sym one.units) (subst (λ (xs : List Subchannel). AreBound xs s.units) (sym one.subs)
    (calm-bound s.subs s.units index sub _ one.there (function-calm sub f c) fit b))
walked-bound s _ _ _ (walked.Chosen word index sub choice t new n x w ok one) apart fit b =
    subst (λ (xs : List UnitState). AreBound new.subs xs) (sym one.units) (subst (λ (xs : List Subchannel). AreBound xs s.units) (sym one.subs)
    (calm-bound s.subs s.units index sub t.sub one.there
    (subst (λ (r : Result SubResult Fault). IfOk r (λ t. IsCalm (offers t.reply) sub t.sub)) ok (marked-choose sub choice (chosen sub choice))) fit b))
walked-bound s _ _ _ (walked.Met word path returns index sub t new n ok one may) apart fit b =
    let right : (u : UnitState) → slice_get s.units sub.setup.«unit» ≡ Some u → BoundWith sub u → IsUpRight sub u path t =
    λ u found k. subst (λ (r : Result UpResult Fault). IfOk r (IsUpRight sub u path)) ok (up-right returns s.storage sub path u (fit index sub u one.there found) k) in
    let old : BoundAt s.units sub = b index sub one.there in
    subst (λ (xs : List UnitState). AreBound new.subs xs) (sym one.units) (subst (λ (xs : List Subchannel). AreBound xs s.units) (sym one.subs)
    (sub-bound s.subs s.units index sub t.sub one.there (right old.0 old.1 old.2).0
    (λ u found k.
    let got : IsUpRight sub u path t = right u found k in
    subst (λ (y : SubchannelSetup). BoundSub t.sub (floor_of u y.side) (on_side u.own y.side)) got.0 got.1) b))
walked-bound s _ _ _ (walked.Sunk word path may owed index sub u t new n ok one) apart fit b =
    let old : BoundAt s.units sub = b index sub one.there in
    let is : old.0 ≡ u = cc (sym old.1 ∙ one.found) in
    let got : IsUnitRight sub u t =
    subst (λ (r : Result DownResult Fault). IfOk r (IsUnitRight sub u)) ok
    (down-right may sub path u (fit index sub u one.there one.found) (subst (λ (w : UnitState). BoundWith sub w) is old.2)) in
    subst (λ (xs : List UnitState). AreBound new.subs xs) (sym one.units) (subst (λ (xs : List Subchannel). AreBound xs (slice_set s.units sub.setup.«unit» (owing owed t.«unit»))) (sym one.subs)
    (unit-bound s.subs s.units index sub.setup.«unit» sub t.sub u (owing owed t.«unit») one.there one.found refl got.0
    (subst (λ (y : SubchannelSetup). BoundSub t.sub (floor_of (owing owed t.«unit») y.side) (on_side (owing owed t.«unit»).own y.side)) got.0
    (bound-unit t.sub t.«unit» (owing owed t.«unit») (owed-less owed t.«unit» t.sub.setup.side) got.2))
    (owed-other owed u t.«unit» sub.setup.side got.3) apart b))
walked-bound s _ _ _ (walked.Reported at index sub u report t new n reached ok one) apart fit b =
    let its : (sub.setup.«unit» ≡ at) × (sub.setup.side ≡ report.side) = reached-there at report.side sub reached in
    let found : slice_get s.units sub.setup.«unit» ≡ Some u = ap (λ (n : ℕ). slice_get s.units n) its.0 ∙ one.found in
    let old : BoundAt s.units sub = b index sub one.there in
    let is : old.0 ≡ u = cc (sym old.1 ∙ found) in
    let got : IsUnitRight sub u t =
    subst (λ (r : Result DownResult Fault). IfOk r (IsUnitRight sub u)) ok
    (report-right sub u report its.1 (fit index sub u one.there found) (subst (λ (w : UnitState). BoundWith sub w) is old.2)) in
    subst (λ (xs : List UnitState). AreBound new.subs xs) (sym one.units) (subst (λ (xs : List Subchannel). AreBound xs (slice_set s.units at t.«unit»)) (sym one.subs)
    (unit-bound s.subs s.units index at sub t.sub u t.«unit» one.there one.found (sym its.0) got.0
    (subst (λ (y : SubchannelSetup). BoundSub t.sub (floor_of t.«unit» y.side) (on_side t.«unit».own y.side)) got.0 got.2) got.3 apart b))
walked-bound s _ _ _ (walked.Acted at index sub u what t new side its ok one) apart fit b =
    let found : slice_get s.units sub.setup.«unit» ≡ Some u = ap (λ (n : ℕ). slice_get s.units n) its ∙ one.found in
    let old : BoundAt s.units sub = b index sub one.there in
    let is : old.0 ≡ u = cc (sym old.1 ∙ found) in
    let got : IsUnitRight sub u t =
    subst (λ (r : Result DownResult Fault). IfOk r (IsUnitRight sub u)) ok
    (act-right sub u what side (fit index sub u one.there found) (subst (λ (w : UnitState). BoundWith sub w) is old.2)) in
    subst (λ (xs : List UnitState). AreBound new.subs xs) (sym one.units) (subst (λ (xs : List Subchannel). AreBound xs (slice_set s.units at t.«unit»)) (sym one.subs)
    (unit-bound s.subs s.units index at sub t.sub u t.«unit» one.there one.found (sym its) got.0
    (subst (λ (y : SubchannelSetup). BoundSub t.sub (floor_of t.«unit» y.side) (on_side t.«unit».own y.side)) got.0 got.2) got.3 apart b))
walked-bound s _ _ _ (walked.Restarted at owed u r new found sets subs units up) apart fit b =
    subst (λ (xs : List UnitState). AreBound new.subs xs) (sym units) (subst (λ (xs : List Subchannel). AreBound xs (slice_set s.units at (owing owed (restarted u)))) (sym subs)
    (restart-bound owed s.subs s.units at u found b))
walked-bound s _ _ _ (walked.Swept e r what new q sets subs units by) apart fit b =
    subst (λ (xs : List UnitState). AreBound new.subs xs) (sym units) (subst (λ (xs : List Subchannel). AreBound xs s.units) (sym subs)
    (swept-bound (swept what) (swept-calm what) s.subs s.units fit b))

-- each subchannel has its unit
there-is : {A : Type 0} (xs : List A) (n : ℕ) → n < length xs → (x : A) × (slice_get xs n ≡ Some x)
there-is [] n l = absurd (omega (arith, l))
there-is (x ∷ xs) zero l = (x, refl)
there-is (x ∷ xs) (suc n) l = there-is xs n (omega (arith, l))

pub get-map : {A B : Type 0} (f : A → B) (xs : List A) (n : ℕ) (x : A) → slice_get xs n ≡ Some x → slice_get (map f xs) n ≡ Some (f x)
get-map f [] n x e = absurd (cc e)
get-map f (y ∷ ys) zero x e = let same : y ≡ x = cc e in ap (λ z. Some (f z)) same
get-map f (y ∷ ys) (suc n) x e = get-map f ys n x e

pub opening-bound : (setup : Setup) → IsLawful setup → AreBound (opening_of setup).subs (opening_of setup).units
opening-bound setup lawful index sub e =
    let p : (s : SubchannelSetup) × (slice_get setup.subchannels index ≡ Some s) × (opened s ≡ sub) = map-get opened setup.subchannels index sub e in
    let placed : IsPlaced (set_count setup) (length setup.units) setup.paths p.0 =
    subst (λ (y : SubchannelSetup). IsPlaced (set_count setup) (length setup.units) setup.paths y) (get_or_from_slice_get setup.subchannels index p.0 p.0 p.1)
    (lawful.subchannels index p.0 (slice_get_within setup.subchannels index p.0 p.1)) in
    let kind : (k : UnitKind) × (slice_get setup.units p.0.«unit» ≡ Some k) = there-is setup.units p.0.«unit» placed.«unit» in
    subst (λ (y : Subchannel). BoundAt (opening_of setup).units y) p.2 (idle_of kind.0, get-map idle_of setup.units p.0.«unit» kind.0 kind.1, opened-bound p.0 kind.0)
