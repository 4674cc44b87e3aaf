-- What each step of a subchannel does to what is over for it: it stays over, or an Accept or a reset makes it so.
use Rattle.std.proofs.Common.{◌≡◌, refl, sym, ◌∙◌, ap, subst, ℕ, ◌+◌, ◌&&◌, nat_lt, Bool, true, false, Option, None, Some, Result, [], ◌∷◌, length, slice_get, IfOk, if◌then◌else◌, inl, inr}
use Rattle.std.specs.Prelude.{◌⊎◌, unwrap_or}
use Rattle.allegiance.specs.PathUse.{reachable_paths}
use Rattle.chan_model.specs.PathSets.{is_any}
use Rattle.chan_events.specs.declared.event.UnitAct.{UnitAct}
use Rattle.chan_model.specs.declared.answer.ConditionCode.{ConditionCode}
use Rattle.chan_model.specs.declared.answer.ConditionCode.TheVariants as code
use Rattle.chan_model.specs.declared.fault.Fault.{Fault}
use Rattle.chan_model.specs.declared.hold_state.HoldPhase.{HoldPhase}
use Rattle.chan_model.specs.declared.hold_state.HoldPhase.TheVariants as hold
use Rattle.chan_model.specs.declared.hold_state.HoldState.{HoldState}
use Rattle.chan_model.specs.Signals.{Down, Up}
use Rattle.chan_model.specs.declared.signal.Down.TheVariants as down
use Rattle.chan_model.specs.declared.unit_state.UnitState.{UnitState}
use Rattle.chan_model.specs.HoldTable.{hold_after, sending_reset}
use Rattle.chan_model.specs.ResetCauses.{rests_on}
use Rattle.chan_model.specs.UnitTable as unit_table
use Rattle.chan_model.specs.UnitTable.{UnitStep, unit_takes}
use Rattle.schib_block.specs.declared.pmcw.Pmcw as block
use Rattle.storage_keys.specs.Storage.{Contents}
use Rattle.wires.specs.Queues.{queue}
use Rattle.subchannel_model.specs.declared.cause.StatusCause.TheVariants as cause
use Rattle.subchannel_model.specs.declared.state.Candidate.{Candidate}
use Rattle.subchannel_model.specs.declared.state.Chosen.{Chosen}
use Rattle.subchannel_model.specs.declared.state.Chosen.TheVariants.{Idle, Resets, PerformsClear, Halts, PerformsHalt, FindsNoPath, Offers}
use Rattle.subchannel_model.specs.declared.state.Subchannel.{Subchannel}
use Rattle.subchannel_model.specs.declared.state.SubchannelState.{SubchannelState}
use Rattle.subchannel_model.specs.declared.state.UpStep.{UpStep}
use Rattle.subchannel_model.specs.Causes.{with_cause}
use Rattle.subchannel_model.specs.Choosing.{first_some, candidate, path_use, chosen, marked_sub, reset_sent, halt_sent, halt_chosen, offer_chosen}
use Rattle.subchannel_model.specs.Clear.{cleared}
use Rattle.subchannel_model.specs.Halt.{halted}
use Rattle.subchannel_model.specs.Losing.{is_offered_or_held, reset_for, path_index, loses_at, loses, shows_at}
use Rattle.subchannel_model.specs.Modify.{modified_state}
use Rattle.subchannel_model.specs.Programs.{has_any}
use Rattle.subchannel_model.specs.Sending.{carried_by, finds_full}
use Rattle.subchannel_model.specs.SystemReset.{state_reset}
use Rattle.subchannel_model.specs.Taking.{takes_up}
use Rattle.subchannel_model.specs.Test.{tested_wholly}
use Rattle.machine_model.specs.ActSteps.{has_path_of_act, acts, act_sub}
use Rattle.machine_model.specs.ChooseSteps.{choose_sub}
use Rattle.machine_model.specs.declared.state.Sweep.{Sweep}
use Rattle.machine_model.specs.declared.state.Sweep.TheVariants as sweep
use Rattle.machine_model.specs.DownSteps.{down_front, down_sub}
use Rattle.machine_model.specs.InstructionSteps.{function_sub, test_with}
use Rattle.machine_model.specs.PathSteps.{swept}
use Rattle.machine_model.specs.ReportSteps.{report_taken}
use Rattle.machine_model.specs.Results.{SubResult, UpResult, DownResult, with_state}
use Rattle.machine_model.specs.UpSteps.{up_front, up_sub}
use Rattle.step_laws.specs.Walks as walked
use Rattle.step_laws.specs.Walks.{Function, Resumes, Clears, Cancels, effect_of}
use Rattle.run_laws.proofs.Machine.SameHold.{cause-same}
use Rattle.run_laws.specs.BeginsItsOwn.{over_chosen, IsAcceptRight}
use Rattle.run_laws.proofs.Signals.Meets.{IsGone, phase-of, reset-gone}
use Rattle.run_laws.proofs.Signals.Overs.{IsOver, Tied, test-over, halt-stays, halted-phase, tested-phase, gone-offer, takes-right, takes-tied}
use Rattle.run_laws.proofs.Signals.Starts.{Within, cause-within, takes-within, test-within, halt-within, lost-within, IsChosenBy, chosen-by}

-- of one subchannel
pub record Owned (over : Bool) (s : SubchannelState) : Type 0 where
  pub within : Within s
  pub tied : Tied over s

pub record Goes (over next : Bool) (sub after : Subchannel) : Type 0 where
  pub setup : after.setup ≡ sub.setup
  pub owned : Owned over sub.state → Owned next after.state

still : (over : Bool) (sub : Subchannel) → Goes over over sub sub
still over sub = record { setup = refl; owned = λ k. k }

-- an offer that stays, and is over as before; or none that stays
same-tied : (over : Bool) (s x : SubchannelState) → x.hold.phase ≡ s.hold.phase → (IsOver s → IsOver x) → Tied over s → Tied over x
same-tied over s x e f k = λ t q h o. f (k t q (sym e ∙ h) o)

gone-tied : (over : Bool) (x : SubchannelState) → IsGone x.hold.phase → Tied over x
gone-tied over x g = λ t q h o. absurd (gone-offer x.hold.phase t q g h)

-- the instructions
pub test-goes : (over : Bool) (sub : Subchannel) (c : ConditionCode) → Goes over over sub (test_with sub c).sub
test-goes over sub code.Zero = record {
  setup = refl;
  owned = λ k. record {
    within = test-within sub.state k.within;
    tied = same-tied over sub.state (tested_wholly sub.state) (tested-phase sub.state) (test-over sub.state) k.tied;
  };
}
test-goes over sub c = still over sub

pub modify-goes : (over : Bool) (sub : Subchannel) (given : block.Pmcw) (c : ConditionCode) → Goes over over sub (function_sub sub c (modified_state sub given)).sub
modify-goes over sub given code.Zero = record { setup = refl; owned = λ k. record { within = k.within; tied = k.tied } }
modify-goes over sub given c = still over sub

effect-goes : (over : Bool) (sub : Subchannel) (f : Function) → Goes over over sub (with_state sub (effect_of f sub.state))
effect-goes over sub Resumes = record { setup = refl; owned = λ k. record { within = k.within; tied = k.tied } }
effect-goes over sub walked.Halts = record {
  setup = refl;
  owned = λ k. record {
    within = halt-within sub.state k.within;
    tied = same-tied over sub.state (halted sub.state) (halted-phase sub.state) (halt-stays sub.state) k.tied;
  };
}
effect-goes over sub Clears = record { setup = refl; owned = λ k. record { within = (k.within.0, tt, tt, tt); tied = gone-tied over (cleared sub.state) tt } }
effect-goes over sub Cancels = record { setup = refl; owned = λ k. record { within = (k.within.0, tt, k.within.2, tt); tied = λ t q h o. inr refl } }

pub function-goes : (over : Bool) (sub : Subchannel) (f : Function) (c : ConditionCode) → Goes over over sub (function_sub sub c (effect_of f sub.state)).sub
function-goes over sub f code.Zero = effect-goes over sub f
function-goes over sub f c = still over sub

-- choosing: nothing is chosen while an offer waits for its answer
if-ok : {A : Type 0} (P : A → Type 0) (b : Bool) (x y : Result A Fault) → IfOk x P → IfOk y P → IfOk (if b then x else y) P
if-ok P true x y e f = e
if-ok P false x y e f = f

no-halt : (pending : Bool) (t p : ℕ) (choice : Option ℕ) → halt_chosen pending (hold.Offer t p) choice ≡ None
no-halt true t p choice = refl
no-halt false t p choice = refl

no-offer : (t p : ℕ) (found : Option Candidate) (reachable : Bool) (choice : Option ℕ) → offer_chosen (hold.Offer t p) found reachable choice ≡ None
no-offer t p None reachable choice = refl
no-offer t p (Some c) reachable choice = refl

abbrev with_phase : Subchannel → HoldPhase → Subchannel
with_phase sub phase = record sub { state = record sub.state { hold = record sub.state.hold { phase = phase } } }

idle-at : (sub : Subchannel) (choice : Option ℕ) (t p : ℕ) → chosen (with_phase sub (hold.Offer t p)) choice ≡ Idle
idle-at sub choice t p =
    let halt : Bool = sub.state.scsw.activity.halt_pending in
    let found : Option Candidate = candidate sub.state in
    let reachable : Bool = is_any (reachable_paths (path_use sub)) in
    ap (λ (o : Option Chosen). unwrap_or (first_some (o ∷ offer_chosen (hold.Offer t p) found reachable choice ∷ [])) Idle) (no-halt halt t p choice)
    ∙ ap (λ (o : Option Chosen). unwrap_or (first_some (o ∷ [])) Idle) (no-offer t p found reachable choice)

pub chosen-idle : (sub : Subchannel) (choice : Option ℕ) (t p : ℕ) → sub.state.hold.phase ≡ hold.Offer t p → chosen sub choice ≡ Idle
chosen-idle sub choice t p e = subst (λ (y : HoldPhase). chosen (with_phase sub y) choice ≡ Idle) (sym e) (idle-at sub choice t p)

pub record IsTurn (over : Bool) (sub : Subchannel) (t : SubResult) : Type 0 where
  pub setup : t.sub.setup ≡ sub.setup
  pub owned : Owned (over_chosen t.reply over) t.sub.state

reset-stays : (h : HoldState) (phase : HoldPhase) (path : ℕ) → (hold_after (record h { phase = phase }) (sending_reset (record h { phase = phase }) phase path)).phase ≡ phase
reset-stays h hold.Free path = refl
reset-stays h other path = refl

not-offered : (over : Bool) (s x : SubchannelState) → ((t p : ℕ) → s.hold.phase ≡ hold.Offer t p → ⊥) → x.hold.phase ≡ s.hold.phase → Tied over x
not-offered over s x n e = λ t p h o. absurd (n t p (sym e ∙ h))

choose-owned : (over : Bool) (sub : Subchannel) (c : Chosen) → IsChosenBy sub.state.starts c → ((t p : ℕ) → sub.state.hold.phase ≡ hold.Offer t p → ⊥) → Owned over sub.state →
    IfOk (choose_sub sub c) (IsTurn over sub)
choose-owned over sub Idle m n k = record { setup = refl; owned = k }
choose-owned over sub (Resets r path) m n k =
    if-ok (IsTurn over sub) (finds_full sub.wires.down (carried_by sub (Some (record { path = path; signal = down.Reset r sub.state.hold.known_restarts })))) _ _ tt
    (record {
      setup = refl;
      owned = record { within = k.within; tied = not-offered over sub.state (reset_sent sub.state path) n (reset-stays sub.state.hold sub.state.hold.phase path) };
    })
choose-owned over sub PerformsClear m n k = record {
  setup = refl;
  owned = record {
    within = cause-within sub.state cause.ClearDone tt k.within;
    tied = not-offered over sub.state (with_cause sub.state cause.ClearDone) n (phase-of sub.state (with_cause sub.state cause.ClearDone) (cause-same sub.state cause.ClearDone));
  };
}
choose-owned over sub (Halts t path) m n k =
    if-ok (IsTurn over sub) (finds_full sub.wires.down (carried_by sub (Some (record { path = path; signal = down.Halt t })))) _ _ tt
    (record { setup = refl; owned = record { within = k.within; tied = not-offered over sub.state (halt_sent sub.state) n refl } })
choose-owned over sub PerformsHalt m n k = record {
  setup = refl;
  owned = record {
    within = cause-within sub.state cause.HaltDone tt k.within;
    tied = not-offered over sub.state (with_cause sub.state cause.HaltDone) n (phase-of sub.state (with_cause sub.state cause.HaltDone) (cause-same sub.state cause.HaltDone));
  };
}
choose-owned over sub FindsNoPath m n k = record {
  setup = refl;
  owned = record {
    within = cause-within sub.state cause.NoPath tt k.within;
    tied = not-offered over sub.state (with_cause sub.state cause.NoPath) n (phase-of sub.state (with_cause sub.state cause.NoPath) (cause-same sub.state cause.NoPath));
  };
}
choose-owned over sub (Offers c path) m n k =
    if-ok (IsTurn over sub) (finds_full sub.wires.down (carried_by sub (Some (record { path = path; signal = down.Select (sub.state.drawn + 1) })))) _ _ tt
    (record { setup = refl; owned = record { within = (m, k.within.1, k.within.2, k.within.3); tied = λ t q h o. absurd (cc o) } })

pub choose-setup : (sub : Subchannel) (c : Chosen) → IfOk (choose_sub sub c) (λ t. t.sub.setup ≡ sub.setup)
choose-setup sub (Resets r path) =
    if-ok (λ (t : SubResult). t.sub.setup ≡ sub.setup) (finds_full sub.wires.down (carried_by sub (Some (record { path = path; signal = down.Reset r sub.state.hold.known_restarts })))) _ _ tt refl
choose-setup sub (Halts t path) = if-ok (λ (t : SubResult). t.sub.setup ≡ sub.setup) (finds_full sub.wires.down (carried_by sub (Some (record { path = path; signal = down.Halt t })))) _ _ tt refl
choose-setup sub (Offers c path) =
    if-ok (λ (t : SubResult). t.sub.setup ≡ sub.setup) (finds_full sub.wires.down (carried_by sub (Some (record { path = path; signal = down.Select (sub.state.drawn + 1) })))) _ _ tt refl
choose-setup sub other = refl

pub offered-or : (phase : HoldPhase) → ((t : ℕ) × (p : ℕ) × (phase ≡ hold.Offer t p)) ⊎ ((t p : ℕ) → phase ≡ hold.Offer t p → ⊥)
offered-or hold.Free = inr (λ t p e. absurd (cc e))
offered-or (hold.Offer t p) = inl (t, p, refl)
offered-or other = inr (λ u q e. absurd (cc e))

pub chosen-owned : (over : Bool) (sub : Subchannel) (choice : Option ℕ) → Owned over sub.state → IfOk (choose_sub (marked_sub sub choice) (chosen sub choice)) (IsTurn over (marked_sub sub choice))
chosen-owned over sub choice k =
    let marked : Subchannel = marked_sub sub choice in
    let kept : Owned over marked.state = record { within = k.within; tied = k.tied } in
    elim (offered-or sub.state.hold.phase) [
      | inl o ↦ subst (λ (c : Chosen). IfOk (choose_sub marked c) (IsTurn over marked)) (sym (chosen-idle sub choice o.0 o.1 o.2)) (record { setup = refl; owned = kept })
      | inr n ↦ choose-owned over marked (chosen sub choice) (chosen-by sub choice k.within) n kept
    ]

-- a signal that came up
pub record IsMet (over : Bool) (sub : Subchannel) (t : UpResult) : Type 0 where
  pub setup : t.sub.setup ≡ sub.setup
  pub owned : Owned over t.sub.state
  pub right : IsAcceptRight t.reply over

front-owned : (over returns : Bool) (storage : Contents) (sub : Subchannel) (path : ℕ) (front : Option Up) → Owned over sub.state → IfOk (up_front returns storage sub path front) (IsMet over sub)
front-owned over returns storage sub path None k = tt
front-owned over returns storage sub path (Some x) k =
    let step : UpStep = (takes_up returns storage sub.state path x).step in
    if-ok (IsMet over sub) (finds_full sub.wires.down (carried_by sub step.outcome.sent)) _ _ tt
    (record {
      setup = refl;
      owned = record { within = takes-within returns storage sub.state path x k.within; tied = takes-tied returns storage sub.state path x over k.tied };
      right = takes-right returns storage sub.state path x over k.tied;
    })

pub up-owned : (over returns : Bool) (storage : Contents) (sub : Subchannel) (path : ℕ) → Owned over sub.state → IfOk (up_sub returns storage sub path) (IsMet over sub)
up-owned over returns storage sub path k =
    if-ok (IsMet over sub) (nat_lt path (length sub.setup.paths)) (up_front returns storage sub path (slice_get (queue sub.wires.up path) 0)) _
    (front-owned over returns storage sub path (slice_get (queue sub.wires.up path) 0) k) tt

front-setup : (returns : Bool) (storage : Contents) (sub : Subchannel) (path : ℕ) (front : Option Up) → IfOk (up_front returns storage sub path front) (λ t. t.sub.setup ≡ sub.setup)
front-setup returns storage sub path None = tt
front-setup returns storage sub path (Some x) =
    if-ok (λ (t : UpResult). t.sub.setup ≡ sub.setup) (finds_full sub.wires.down (carried_by sub (takes_up returns storage sub.state path x).step.outcome.sent)) _ _ tt refl

pub up-setup : (returns : Bool) (storage : Contents) (sub : Subchannel) (path : ℕ) → IfOk (up_sub returns storage sub path) (λ t. t.sub.setup ≡ sub.setup)
up-setup returns storage sub path =
    if-ok (λ (t : UpResult). t.sub.setup ≡ sub.setup) (nat_lt path (length sub.setup.paths)) (up_front returns storage sub path (slice_get (queue sub.wires.up path) 0)) _
    (front-setup returns storage sub path (slice_get (queue sub.wires.up path) 0)) tt

-- a step of the unit
pub record IsApart (sub : Subchannel) (t : DownResult) : Type 0 where
  pub setup : t.sub.setup ≡ sub.setup
  pub state : t.sub.state ≡ sub.state

down_front-apart : (may : Bool) (sub : Subchannel) (path : ℕ) (u : UnitState) (front : Option Down) → IfOk (down_front may sub path u front) (IsApart sub)
down_front-apart may sub path u None = tt
down_front-apart may sub path u (Some d) =
    let step : Option UnitStep = unit_takes u sub.setup.side path d may in
    if-ok (IsApart sub) (finds_full sub.wires.up (carried_by sub (unit_table.outcome_of step).sent)) _ _ tt (record { setup = refl; state = refl })

pub down-apart : (may : Bool) (sub : Subchannel) (path : ℕ) (u : UnitState) → IfOk (down_sub may sub path u) (IsApart sub)
down-apart may sub path u =
    if-ok (IsApart sub) (nat_lt path (length sub.setup.paths)) (down_front may sub path u (slice_get (queue sub.wires.down path) 0)) _
    (down_front-apart may sub path u (slice_get (queue sub.wires.down path) 0)) tt

pub step-apart : (sub : Subchannel) (step : Option UnitStep) → IfOk (report_taken sub step) (IsApart sub)
step-apart sub None = tt
step-apart sub (Some step) = if-ok (IsApart sub) (finds_full sub.wires.up (carried_by sub step.sent)) _ _ tt (record { setup = refl; state = refl })

pub act-apart : (sub : Subchannel) (u : UnitState) (what : UnitAct) → IfOk (act_sub sub u what) (IsApart sub)
act-apart sub u what =
    if-ok (IsApart sub) (has_path_of_act sub what) (report_taken sub (acts u sub.setup.side what)) _ (step-apart sub (acts u sub.setup.side what)) tt

-- a path that goes down, comes up or is reset, and a reset of the subsystem
lost-tied : (over : Bool) (s : SubchannelState) (rests : Bool) → Tied over s → Tied over (if rests then reset_for s else s)
lost-tied over s true k = gone-tied over (reset_for s) (reset-gone s (is_offered_or_held s.hold.phase && has_any s.waiting s.begun s.suspended))
lost-tied over s false k = k

loses-goes : (over : Bool) (sub : Subchannel) (o : Option ℕ) → Goes over over sub (loses_at o sub)
loses-goes over sub None = still over sub
loses-goes over sub (Some p) = record {
  setup = refl;
  owned = λ k. record { within = lost-within sub.state p k.within; tied = lost-tied over sub.state (rests_on sub.state.hold p) k.tied };
}

shows-goes : (over : Bool) (sub after : Subchannel) (o : Option ℕ) (up : Bool) → Goes over over sub after → Goes over over sub (shows_at o up after)
shows-goes over sub after None up m = m
shows-goes over sub after (Some p) up m = record {
  setup = m.setup;
  owned = λ k. let now : Owned over after.state = m.owned k in record { within = now.within; tied = now.tied };
}

pub swept-goes : (over : Bool) (what : Sweep) (sub : Subchannel) → Goes over over sub (swept what sub)
swept-goes over (sweep.GoesDown chpid) sub =
    shows-goes over sub (loses chpid sub) (path_index chpid (loses chpid sub).setup.paths) false (loses-goes over sub (path_index chpid sub.setup.paths))
swept-goes over (sweep.ComesUp chpid) sub = shows-goes over sub sub (path_index chpid sub.setup.paths) true (still over sub)
swept-goes over (sweep.PathReset chpid) sub = loses-goes over sub (path_index chpid sub.setup.paths)
swept-goes over sweep.SystemReset sub = record {
  setup = refl;
  owned = λ k. record { within = (k.within.0, tt, tt, tt); tied = gone-tied over (state_reset sub.state) tt };
}
