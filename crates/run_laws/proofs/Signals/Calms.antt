-- What a subchannel does that is no answer to a signal leaves what waits on its wires, and what was seen of its connection, in order.
use Rattle.std.proofs.Common.{◌≡◌, refl, sym, subst, ℕ, List, ◌∷◌, ◌≤◌, ◌+◌, ◌&&◌, Bool, true, false, Option, None, Some, Result, Ok, Err, [], IfOk, if◌then◌else◌, inl, inr, arith}
use Rattle.chan_model.specs.declared.answer.ConditionCode.{ConditionCode}
use Rattle.chan_model.specs.declared.answer.ConditionCode.TheVariants as code
use Rattle.chan_model.specs.declared.fault.Fault.{Fault}
use Rattle.chan_model.specs.declared.hold_state.HoldPhase.{HoldPhase}
use Rattle.chan_model.specs.declared.hold_state.HoldPhase.TheVariants as hold
use Rattle.chan_model.specs.declared.hold_state.HoldState.{HoldState}
use Rattle.chan_model.specs.declared.signal.Down.TheVariants as down
use Rattle.chan_model.specs.HoldTable.{hold_after, sending_reset}
use Rattle.chan_model.specs.ResetCauses.{rests_on}
use Rattle.orb_block.specs.declared.Orb.{Orb}
use Rattle.schib_block.specs.declared.pmcw.Pmcw as block
use Rattle.subchannel_model.specs.declared.cause.StatusCause.TheVariants as cause
use Rattle.std.specs.Prelude.{unwrap_or}
use Rattle.allegiance.specs.PathUse.{reachable_paths}
use Rattle.chan_model.specs.PathSets.{is_any}
use Rattle.subchannel_model.specs.declared.state.Candidate.{Candidate}
use Rattle.subchannel_model.specs.declared.state.Chosen.{Chosen}
use Rattle.subchannel_model.specs.declared.state.Chosen.TheVariants.{Idle, Resets, PerformsClear, Halts, PerformsHalt, FindsNoPath, Offers}
use Rattle.subchannel_model.specs.declared.state.Subchannel.{Subchannel}
use Rattle.subchannel_model.specs.declared.state.SubchannelState.{SubchannelState}
use Rattle.subchannel_model.specs.Cancel.{cancelled}
use Rattle.subchannel_model.specs.Causes.{with_cause}
use Rattle.subchannel_model.specs.Choosing.{marked_sub, reset_sent, unsent_reset, first_some, candidate, path_use, reset_chosen, clear_chosen, halt_at, offer_at, chosen, halt_chosen, offer_chosen}
use Rattle.subchannel_model.specs.Clear.{cleared}
use Rattle.subchannel_model.specs.Halt.{halted}
use Rattle.subchannel_model.specs.Losing.{is_offered_or_held, reset_for, path_lost, path_index, loses_at, loses, shows_at}
use Rattle.subchannel_model.specs.Modify.{modified_state}
use Rattle.subchannel_model.specs.Programs.{has_any}
use Rattle.subchannel_model.specs.Resume.{resumed}
use Rattle.subchannel_model.specs.Sending.{carried_by, finds_full}
use Rattle.subchannel_model.specs.Start.{started}
use Rattle.subchannel_model.specs.SystemReset.{state_reset}
use Rattle.subchannel_model.specs.Test.{tested_wholly}
use Rattle.machine_model.specs.ChooseSteps.{choose_sub}
use Rattle.machine_model.specs.declared.state.Sweep.{Sweep}
use Rattle.machine_model.specs.declared.state.Sweep.TheVariants as sweep
use Rattle.machine_model.specs.InstructionSteps.{function_sub, test_with}
use Rattle.machine_model.specs.PathSteps.{swept}
use Rattle.machine_model.specs.Results.{SubResult, with_state}
use Rattle.step_laws.specs.Walks.{Function, Resumes, Halts, Clears, Cancels, effect_of}
use Rattle.step_laws.specs.Walks as walks
use Rattle.run_laws.proofs.Machine.SameHold.{IsSameHold, cause-same, tested-same, halted-same}
use Rattle.chan_events.specs.Replies.{Reply}
use Rattle.agreement_laws.specs.PathsSeen.{Connected, IsHaltOn}
use Rattle.run_laws.specs.ByItsPath.{SeenPaths, offered_in, IsHaltRight}
use Rattle.run_laws.proofs.Signals.Meets.{Stays, phase-of, reset-gone}
use Rattle.run_laws.proofs.Signals.Ties.{Ties, stays-ties}
use Rattle.run_laws.proofs.Signals.Bounds.{IsBound}
use Rattle.run_laws.proofs.Signals.BoundSteps.{bound-quiet, bound-lost, bound-offered}

abbrev pub BoundSub : Subchannel → ℕ → Option Connected → Type 0
BoundSub sub f o = IsBound sub.state.hold.phase sub.wires.up sub.wires.down f o

abbrev pub Same : SeenPaths → SeenPaths
Same k = k

abbrev pub offers : Reply → SeenPaths → SeenPaths
offers r k = record k { offered = offered_in r k.offered }

pub record IsCalm (g : SeenPaths → SeenPaths) (sub after : Subchannel) : Type 0 where
  pub setup : after.setup ≡ sub.setup
  pub bound : (f : ℕ) (o : Option Connected) → f ≤ sub.state.drawn → BoundSub sub f o → BoundSub after f o
  pub ties : (k : SeenPaths) → Ties sub.state.hold.phase k → Ties after.state.hold.phase (g k)

stays-calm : (sub : Subchannel) (x : SubchannelState) → Stays sub.state.hold.phase x.hold.phase → IsCalm Same sub (with_state sub x)
stays-calm sub x stays = record {
  setup = refl;
  bound = λ f o l b. bound-quiet sub.state.hold.phase x.hold.phase sub.wires.up sub.wires.down f o [] None tt stays b;
  ties = λ k t. stays-ties sub.state.hold.phase x.hold.phase k stays t;
}

same-calm : (sub : Subchannel) (x : SubchannelState) → IsSameHold sub.state x → IsCalm Same sub (with_state sub x)
same-calm sub x h = stays-calm sub x (inl (phase-of sub.state x h))

still : (sub : Subchannel) → IsCalm Same sub sub
still sub = record { setup = refl; bound = λ f o l b. b; ties = λ k t. t }

-- the instructions
pub start-calm : (sub : Subchannel) (orb : Orb) (c : ConditionCode) → IsCalm Same sub (function_sub sub c (started sub.state orb)).sub
start-calm sub orb code.Zero = stays-calm sub (started sub.state orb) (inl refl)
start-calm sub orb c = still sub

pub test-calm : (sub : Subchannel) (c : ConditionCode) → IsCalm Same sub (test_with sub c).sub
test-calm sub code.Zero = same-calm sub (tested_wholly sub.state) (tested-same sub.state)
test-calm sub c = still sub

pub modify-calm : (sub : Subchannel) (given : block.Pmcw) (c : ConditionCode) → IsCalm Same sub (function_sub sub c (modified_state sub given)).sub
modify-calm sub given code.Zero = stays-calm sub (modified_state sub given) (inl refl)
modify-calm sub given c = still sub

effect-calm : (sub : Subchannel) (f : Function) → IsCalm Same sub (with_state sub (effect_of f sub.state))
effect-calm sub Resumes = stays-calm sub (resumed sub.state) (inl refl)
effect-calm sub walks.Halts = same-calm sub (halted sub.state) (halted-same sub.state)
effect-calm sub Clears = stays-calm sub (cleared sub.state) (inr tt)
effect-calm sub Cancels = stays-calm sub (cancelled sub.state) (inl refl)

pub function-calm : (sub : Subchannel) (f : Function) (c : ConditionCode) → IsCalm Same sub (function_sub sub c (effect_of f sub.state)).sub
function-calm sub f code.Zero = effect-calm sub f
function-calm sub f c = still sub

-- choosing
if-ok : {A : Type 0} (P : A → Type 0) (b : Bool) (x y : Result A Fault) → IfOk x P → IfOk y P → IfOk (if b then x else y) P
if-ok P true x y e f = e
if-ok P false x y e f = f

abbrev IsCalmResult : Subchannel → SubResult → Type 0
IsCalmResult sub t = IsCalm (offers t.reply) sub t.sub

reset-stays : (h : HoldState) (phase : HoldPhase) (path : ℕ) → (hold_after (record h { phase = phase }) (sending_reset (record h { phase = phase }) phase path)).phase ≡ phase
reset-stays h hold.Free path = refl
reset-stays h other path = refl

choose-calm : (sub : Subchannel) (c : Chosen) → IfOk (choose_sub sub c) (IsCalmResult sub)
choose-calm sub Idle = still sub
choose-calm sub (Resets r path) =
    let stays : Stays sub.state.hold.phase (reset_sent sub.state path).hold.phase = inl (reset-stays sub.state.hold sub.state.hold.phase path) in
    if-ok (IsCalmResult sub) (finds_full sub.wires.down (carried_by sub (Some (record { path = path; signal = down.Reset r sub.state.hold.known_restarts })))) _ _ tt
    (record {
      setup = refl;
      bound = λ f o l b. bound-quiet sub.state.hold.phase (reset_sent sub.state path).hold.phase sub.wires.up sub.wires.down f o sub.state.pmcw.available
          (Some (record { path = path; signal = down.Reset r sub.state.hold.known_restarts })) tt stays b;
      ties = λ k t. stays-ties sub.state.hold.phase (reset_sent sub.state path).hold.phase k stays t;
    })
choose-calm sub PerformsClear = same-calm sub (with_cause sub.state cause.ClearDone) (cause-same sub.state cause.ClearDone)
choose-calm sub (Halts t path) =
    if-ok (IsCalmResult sub) (finds_full sub.wires.down (carried_by sub (Some (record { path = path; signal = down.Halt t })))) _ _ tt
    (record {
      setup = refl;
      bound = λ f o l b. bound-quiet sub.state.hold.phase sub.state.hold.phase sub.wires.up sub.wires.down f o sub.state.pmcw.available
          (Some (record { path = path; signal = down.Halt t })) tt (inl refl) b;
      ties = λ k x. x;
    })
choose-calm sub PerformsHalt = same-calm sub (with_cause sub.state cause.HaltDone) (cause-same sub.state cause.HaltDone)
choose-calm sub FindsNoPath = same-calm sub (with_cause sub.state cause.NoPath) (cause-same sub.state cause.NoPath)
choose-calm sub (Offers c path) =
    if-ok (IsCalmResult sub) (finds_full sub.wires.down (carried_by sub (Some (record { path = path; signal = down.Select (sub.state.drawn + 1) })))) _ _ tt
    (record {
      setup = refl;
      bound = λ f o l b. bound-offered sub.state.hold.phase sub.wires.up sub.wires.down f (sub.state.drawn + 1) path o sub.state.pmcw.available
          (Some (record { path = path; signal = down.Select (sub.state.drawn + 1) })) (omega (arith, l)) tt b;
      ties = λ k x. refl;
    })

-- a Halt goes by the path of the program that is connected
abbrev pub IsHaltAt : HoldPhase → Chosen → Type 0
IsHaltAt (hold.On u q d) (Halts t p) = (u ≡ t) × (q ≡ p)
IsHaltAt (hold.Away u) (Halts t p) = Unit {0}
IsHaltAt phase (Halts t p) = ⊥
IsHaltAt phase c = Unit {0}

halt-right : (phase : HoldPhase) (t p : ℕ) (k : SeenPaths) → IsHaltAt phase (Halts t p) → Ties phase k → IsHaltOn k.connected t p
halt-right (hold.On u q d) t p k h e = subst (λ (y : Option Connected). IsHaltOn y t p) (sym e) h
halt-right (hold.Away u) t p k h e = subst (λ (y : Option Connected). IsHaltOn y t p) (sym e) tt
halt-right other t p k h e = absurd h

choose-halts : (sub : Subchannel) (c : Chosen) (k : SeenPaths) → IsHaltAt sub.state.hold.phase c → Ties sub.state.hold.phase k → IfOk (choose_sub sub c) (λ t. IsHaltRight t.reply k)
choose-halts sub (Resets r path) k h e =
    if-ok (λ (t : SubResult). IsHaltRight t.reply k) (finds_full sub.wires.down (carried_by sub (Some (record { path = path; signal = down.Reset r sub.state.hold.known_restarts })))) _ _ tt tt
choose-halts sub (Halts t path) k h e =
    if-ok (λ (t : SubResult). IsHaltRight t.reply k) (finds_full sub.wires.down (carried_by sub (Some (record { path = path; signal = down.Halt t })))) _ _ tt
    (halt-right sub.state.hold.phase t path k h e)
choose-halts sub (Offers c path) k h e =
    if-ok (λ (t : SubResult). IsHaltRight t.reply k) (finds_full sub.wires.down (carried_by sub (Some (record { path = path; signal = down.Select (sub.state.drawn + 1) })))) _ _ tt tt
choose-halts sub other k h e = tt

-- what is chosen, where that is a Halt, is the halt of this phase
abbrev AreHaltsAt : HoldPhase → Option Chosen → Type 0
AreHaltsAt phase None = Unit {0}
AreHaltsAt phase (Some c) = IsHaltAt phase c

halt-idle : (phase : HoldPhase) → IsHaltAt phase Idle
halt-idle hold.Free = tt
halt-idle other = tt

halt-reset : (phase : HoldPhase) (r path : ℕ) → IsHaltAt phase (Resets r path)
halt-reset hold.Free r path = tt
halt-reset other r path = tt

halt-clear : (phase : HoldPhase) → IsHaltAt phase PerformsClear
halt-clear hold.Free = tt
halt-clear other = tt

first-halts : (phase : HoldPhase) (a : Option Chosen) (later : List (Option Chosen)) → AreHaltsAt phase a → AreHaltsAt phase (first_some later) → AreHaltsAt phase (first_some (a ∷ later))
first-halts phase None later here after = after
first-halts phase (Some x) later here after = here

or-idle : (phase : HoldPhase) (a : Option Chosen) → AreHaltsAt phase a → IsHaltAt phase (unwrap_or a Idle)
or-idle phase None here = halt-idle phase
or-idle phase (Some x) here = here

reset-halts : (phase : HoldPhase) (choice unsent : Option ℕ) → AreHaltsAt phase (reset_chosen unsent choice)
reset-halts phase choice None = tt
reset-halts phase None (Some r) = tt
reset-halts phase (Some path) (Some r) = halt-reset phase r path

clear-halts : (phase : HoldPhase) (unsent : Option ℕ) (pending : Bool) → AreHaltsAt phase (clear_chosen unsent pending)
clear-halts phase None pending = tt
clear-halts phase (Some r) false = tt
clear-halts phase (Some r) true = halt-clear phase

halt-at-halts : (choice : Option ℕ) (phase : HoldPhase) → AreHaltsAt phase (halt_at phase choice)
halt-at-halts choice (hold.On t p c) = (refl, refl)
halt-at-halts None (hold.Away t) = tt
halt-at-halts (Some path) (hold.Away t) = tt
halt-at-halts choice other = tt

halt-halts : (choice : Option ℕ) (pending : Bool) (phase : HoldPhase) → AreHaltsAt phase (halt_chosen pending phase choice)
halt-halts choice false phase = tt
halt-halts choice true phase = halt-at-halts choice phase

offer-at-halts : (choice : Option ℕ) (phase : HoldPhase) (c : Candidate) (reachable : Bool) → AreHaltsAt phase (offer_at phase c reachable choice)
offer-at-halts None hold.Free c true = tt
offer-at-halts None hold.Free c false = tt
offer-at-halts (Some path) hold.Free c reachable = tt
offer-at-halts choice (hold.Reset r) c true = tt
offer-at-halts choice (hold.Reset r) c false = tt
offer-at-halts choice other c reachable = tt

offer-halts : (choice : Option ℕ) (phase : HoldPhase) (found : Option Candidate) (reachable : Bool) → AreHaltsAt phase (offer_chosen phase found reachable choice)
offer-halts choice phase None reachable = tt
offer-halts choice phase (Some c) reachable = offer-at-halts choice phase c reachable

chosen-halt : (sub : Subchannel) (choice : Option ℕ) → IsHaltAt sub.state.hold.phase (chosen sub choice)
chosen-halt sub choice =
    or-idle sub.state.hold.phase _
    (first-halts sub.state.hold.phase _ _ (reset-halts sub.state.hold.phase choice (unsent_reset sub.state.hold))
    (first-halts sub.state.hold.phase _ _ (clear-halts sub.state.hold.phase (unsent_reset sub.state.hold) sub.state.scsw.activity.clear_pending)
    (first-halts sub.state.hold.phase _ _ (halt-halts choice sub.state.scsw.activity.halt_pending sub.state.hold.phase)
    (first-halts sub.state.hold.phase _ _ (offer-halts choice sub.state.hold.phase (candidate sub.state) (is_any (reachable_paths (path_use sub)))) tt))))

pub chosen-halts : (sub : Subchannel) (choice : Option ℕ) (k : SeenPaths) → Ties sub.state.hold.phase k → IfOk (choose_sub (marked_sub sub choice) (chosen sub choice)) (λ t. IsHaltRight t.reply k)
chosen-halts sub choice k e = choose-halts (marked_sub sub choice) (chosen sub choice) k (chosen-halt sub choice) e

marked-calm : (g : SeenPaths → SeenPaths) (sub after : Subchannel) (choice : Option ℕ) → IsCalm g (marked_sub sub choice) after → IsCalm g sub after
marked-calm g sub after choice m = record { setup = m.setup; bound = λ f o l b. m.bound f o l b; ties = λ k t. m.ties k t }

ok-marked : (sub : Subchannel) (choice : Option ℕ) (r : Result SubResult Fault) → IfOk r (IsCalmResult (marked_sub sub choice)) → IfOk r (IsCalmResult sub)
ok-marked sub choice (Ok t) m = marked-calm (offers t.reply) sub t.sub choice m
ok-marked sub choice (Err f) m = tt

pub marked-choose : (sub : Subchannel) (choice : Option ℕ) (c : Chosen) → IfOk (choose_sub (marked_sub sub choice) c) (IsCalmResult sub)
marked-choose sub choice c = ok-marked sub choice (choose_sub (marked_sub sub choice) c) (choose-calm (marked_sub sub choice) c)

-- a path that goes down, comes up or is reset, and a reset of the subsystem
lost-stays : (s : SubchannelState) (rests : Bool) → Stays s.hold.phase (if rests then reset_for s else s).hold.phase
lost-stays s true = inr (reset-gone s (is_offered_or_held s.hold.phase && has_any s.waiting s.begun s.suspended))
lost-stays s false = inl refl

loses-calm : (sub : Subchannel) (o : Option ℕ) → IsCalm Same sub (loses_at o sub)
loses-calm sub None = still sub
loses-calm sub (Some p) =
    let stays : Stays sub.state.hold.phase (path_lost sub.state p).hold.phase = lost-stays sub.state (rests_on sub.state.hold p) in
    record {
      setup = refl;
      bound = λ f o l b. bound-lost sub.state.hold.phase (path_lost sub.state p).hold.phase sub.wires.up sub.wires.down f o p stays b;
      ties = λ k t. stays-ties sub.state.hold.phase (path_lost sub.state p).hold.phase k stays t;
    }

shows-calm : (sub after : Subchannel) (o : Option ℕ) (up : Bool) → IsCalm Same sub after → IsCalm Same sub (shows_at o up after)
shows-calm sub after None up m = m
shows-calm sub after (Some p) up m = record { setup = m.setup; bound = λ f o l b. m.bound f o l b; ties = λ k t. m.ties k t }

pub swept-calm : (what : Sweep) (sub : Subchannel) → IsCalm Same sub (swept what sub)
swept-calm (sweep.GoesDown chpid) sub =
    shows-calm sub (loses chpid sub) (path_index chpid (loses chpid sub).setup.paths) false (loses-calm sub (path_index chpid sub.setup.paths))
swept-calm (sweep.ComesUp chpid) sub = shows-calm sub sub (path_index chpid sub.setup.paths) true (still sub)
swept-calm (sweep.PathReset chpid) sub = loses-calm sub (path_index chpid sub.setup.paths)
swept-calm sweep.SystemReset sub = stays-calm sub (state_reset sub.state) (inr tt)
