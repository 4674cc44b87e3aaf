-- What a subchannel does that begins no program and connects none: no path is engaged that was not, and no offer is made.
use Rattle.std.proofs.Common.{◌≡◌, refl, sym, ◌∙◌, ap, subst, ℕ, ◌+◌, ◌≤◌, ◌==◌, ◌&&◌, nat_lt, Bool, true, false, Option, None, Some, if◌then◌else◌, arith}
use Rattle.chan_model.specs.declared.hold_state.HoldPhase.{HoldPhase}
use Rattle.chan_model.specs.declared.hold_state.HoldPhase.TheVariants as hold
use Rattle.chan_model.specs.declared.hold_state.HoldState.{HoldState}
use Rattle.chan_model.specs.Signals.{Down}
use Rattle.chan_model.specs.declared.signal.Down.TheVariants as down
use Rattle.chan_model.specs.declared.signal.OnPath.{OnPath}
use Rattle.chan_model.specs.declared.signal.Taken.{Taken}
use Rattle.chan_model.specs.HoldTable.{HoldStep, hold_after, outcome_of, hold_quietly, hold_sending, found_busy, left, released, reset_cleared, attended, letting_go}
use Rattle.chan_model.specs.ResetCauses.{engaged_path}
use Rattle.subchannel_model.specs.declared.cause.StatusCause.TheVariants as cause
use Rattle.subchannel_model.specs.declared.state.SubchannelState.{SubchannelState}
use Rattle.subchannel_model.specs.declared.state.UpStep.{UpStep}
use Rattle.subchannel_model.specs.Causes.{with_cause}
use Rattle.subchannel_model.specs.Losing.{is_offered_or_held, reset_drawn, reset_with}
use Rattle.subchannel_model.specs.Programs.{has_any}
use Rattle.subchannel_model.specs.Notice.{with_known, takes_notice}
use Rattle.subchannel_model.specs.Attention.{with_attention}
use Rattle.run_laws.proofs.Machine.SameState.{IsSame, cause-same, attention-same, clear_performed-same}
use Rattle.subchannel_model.specs.Outcomes.{signal_ignored, signal_taken, device_released, hold_outcome}
use Rattle.subchannel_model.specs.Cleared.{clear_performed, takes_cleared}
use Rattle.run_laws.proofs.Machine.Told.{Remembers}

pub record IsCalmHold (h next : HoldState) : Type 0 where
  pub engaged : (q : ℕ) → engaged_path next.phase ≡ Some q → engaged_path h.phase ≡ Some q
  pub offered : (t q : ℕ) → next.phase ≡ hold.Offer t q → h.phase ≡ hold.Offer t q
  pub remembers : (accepted : Option ℕ) → Remembers h.phase h.first_path accepted → Remembers next.phase next.first_path accepted

pub still-hold : (h : HoldState) → IsCalmHold h h
still-hold h = record { engaged = λ q e. e; offered = λ t q e. e; remembers = λ accepted m. m }

-- a signal that neither asks for the device nor lets a program come back
abbrev pub IsPlain : Down → Type 0
IsPlain (down.Select t) = ⊥
IsPlain (down.Grant t c) = ⊥
IsPlain d = Unit {0}

abbrev pub ArePlain : Option (OnPath Down) → Type 0
ArePlain None = Unit {0}
ArePlain (Some s) = IsPlain s.signal

pub record IsCalm (s : SubchannelState) (step : UpStep) : Type 0 where
  pub drawn : s.drawn ≤ step.state.drawn
  pub available : step.state.pmcw.available ≡ s.pmcw.available
  pub hold : IsCalmHold s.hold step.state.hold
  pub sent : ArePlain step.outcome.sent

-- the hold and its mask are as they were
pub same-calm : (s x : SubchannelState) (outcome : Taken Down) → IsSame s x → ArePlain outcome.sent → IsCalm s (record { state = x; outcome = outcome })
same-calm s x outcome same plain =
    record {
      drawn = let n : x.drawn ≡ s.drawn = same.drawn in omega (arith, n);
      available = same.available;
      hold = subst (λ (h : HoldState). IsCalmHold s.hold h) (sym same.hold) (still-hold s.hold);
      sent = plain;
    }

pub ignored-calm : (s : SubchannelState) → IsCalm s (signal_ignored s)
ignored-calm s = record { drawn = omega arith; available = refl; hold = still-hold s.hold; sent = tt }

-- the steps of the hold
pub record IsCalmStep (h : HoldState) (step : Option HoldStep) : Type 0 where
  pub hold : IsCalmHold h (hold_after h step)
  pub sent : ArePlain (outcome_of step).sent

no-step : (h : HoldState) → IsCalmStep h None
no-step h = record { hold = still-hold h; sent = tt }

if-step : (h : HoldState) (b : Bool) (step : HoldStep) → IsCalmStep h (Some step) → IsCalmStep h (if b then Some step else None)
if-step h true step k = k
if-step h false step k = no-step h

abbrev pub with_phase : HoldState → HoldPhase → HoldState
with_phase h phase = record h { phase = phase }

let-step : (h : HoldState) (phase : HoldPhase) → IsCalmStep (with_phase h phase) (letting_go (with_phase h phase) phase)
let-step h (hold.On t p c) =
    record { hold = record { engaged = λ q e. e; offered = λ u q e. absurd (cc e); remembers = λ accepted m. tt }; sent = tt }
let-step h other = no-step (with_phase h other)

pub busy-step : (h : HoldState) (phase : HoldPhase) (u : ℕ) → IsCalmStep (with_phase h phase) (found_busy (with_phase h phase) phase u)
busy-step h (hold.Offer t p) u =
    if-step (with_phase h (hold.Offer t p)) (u == t) (hold_quietly (with_phase h hold.Free))
    (record { hold = record { engaged = λ q e. absurd (cc e); offered = λ v q e. absurd (cc e); remembers = λ accepted m. tt }; sent = tt })
busy-step h other u = no-step (with_phase h other)

pub left-step : (h : HoldState) (phase : HoldPhase) (u d : ℕ) → IsCalmStep (with_phase h phase) (left (with_phase h phase) phase u d)
left-step h (hold.On t p c) u d =
    if-step (with_phase h (hold.On t p c)) ((u == t) && (d == c)) (hold_quietly (with_phase h (hold.Away t)))
    (record { hold = record { engaged = λ q e. absurd (cc e); offered = λ v q e. absurd (cc e); remembers = λ accepted m. m }; sent = tt })
left-step h other u d = no-step (with_phase h other)

pub released-step : (h : HoldState) (phase : HoldPhase) (u : ℕ) → IsCalmStep (with_phase h phase) (released (with_phase h phase) phase u)
released-step h (hold.Letting t p) u =
    if-step (with_phase h (hold.Letting t p)) (u == t) (hold_quietly (with_phase h hold.Free))
    (record { hold = record { engaged = λ q e. absurd (cc e); offered = λ v q e. absurd (cc e); remembers = λ accepted m. tt }; sent = tt })
released-step h other u = no-step (with_phase h other)

pub cleared-step : (h : HoldState) (phase : HoldPhase) (u : ℕ) → IsCalmStep (with_phase h phase) (reset_cleared (with_phase h phase) phase u)
cleared-step h (hold.Reset r) u =
    if-step (with_phase h (hold.Reset r)) (u == r) (hold_quietly (record h { phase = hold.Free; reset_path = None }))
    (record { hold = record { engaged = λ q e. absurd (cc e); offered = λ v q e. absurd (cc e); remembers = λ accepted m. tt }; sent = tt })
cleared-step h other u = no-step (with_phase h other)

pub attended-step : (h : HoldState) (phase : HoldPhase) (p a : ℕ) (may : Bool) → IsCalmStep (with_phase h phase) (attended (with_phase h phase) phase p a may)
attended-step h hold.Free p a may =
    if-step (with_phase h hold.Free) may (hold_sending (with_phase h hold.Free) p (down.Got a)) (record { hold = still-hold (with_phase h hold.Free); sent = tt })
attended-step h other p a may = no-step (with_phase h other)

-- what is left of the subchannel by them, and a status that is made then
pub step-calm : (s x : SubchannelState) (step : Option HoldStep) → IsCalmStep s.hold step → IsSame (record s { hold = hold_after s.hold step }) x →
    IsCalm s (record { state = x; outcome = outcome_of step })
step-calm s x step k same =
    record {
      drawn = let n : x.drawn ≡ s.drawn = same.drawn in omega (arith, n);
      available = same.available;
      hold = subst (λ (h : HoldState). IsCalmHold s.hold h) (sym same.hold) k.hold;
      sent = k.sent;
    }

pub hold_outcome-calm : (s : SubchannelState) (step : Option HoldStep) → IsCalmStep s.hold step → IsCalm s (hold_outcome s step)
hold_outcome-calm s step k = step-calm s (record s { hold = hold_after s.hold step }) step k (record { drawn = refl; hold = refl; available = refl })

pub cleared-calm : (s : SubchannelState) (step : Option HoldStep) → IsCalmStep s.hold step → IsCalm s (takes_cleared s step)
cleared-calm s None k = ignored-calm s
cleared-calm s (Some step) k = step-calm s (clear_performed (record s { hold = step.state })) (Some step) k (clear_performed-same (record s { hold = step.state }))

pub attention-calm : (s : SubchannelState) (shows : Bool) (step : Option HoldStep) → IsCalmStep s.hold step →
    IsCalm s (record { state = with_attention (record s { hold = hold_after s.hold step }) shows; outcome = outcome_of step })
attention-calm s shows step k =
    step-calm s (with_attention (record s { hold = hold_after s.hold step }) shows) step k (attention-same (record s { hold = hold_after s.hold step }) shows)

-- the device is let go
pub let-calm : (s x : SubchannelState) → IsSame s x → IsCalm s (device_released x)
let-calm s x same =
    let k : IsCalmStep x.hold (letting_go x.hold x.hold.phase) = let-step x.hold x.hold.phase in
    record {
      drawn = let n : x.drawn ≡ s.drawn = same.drawn in omega (arith, n);
      available = same.available;
      hold = subst (λ (h : HoldState). IsCalmHold h (hold_after x.hold (letting_go x.hold x.hold.phase))) same.hold k.hold;
      sent = k.sent;
    }

-- the hold is to be reset
pub record IsReset (s x : SubchannelState) : Type 0 where
  pub drawn : s.drawn ≤ x.drawn
  pub available : x.pmcw.available ≡ s.pmcw.available
  pub hold : IsCalmHold s.hold x.hold
  pub disengaged : (q : ℕ) → engaged_path x.hold.phase ≡ Some q → ⊥

pub reset-hold : (h : HoldState) (r known : ℕ) → IsCalmHold h (record h { phase = hold.Reset r; reset_path = None; known_restarts = known })
reset-hold h r known = record { engaged = λ q e. absurd (cc e); offered = λ v q e. absurd (cc e); remembers = λ accepted m. tt }

reset-with : (s : SubchannelState) (shows : Bool) → IsReset s (reset_with s shows)
reset-with s false = record { drawn = omega arith; available = refl; hold = reset-hold s.hold (s.drawn + 1) s.hold.known_restarts; disengaged = λ q e. absurd (cc e) }
reset-with s true =
    let same : IsSame (reset_drawn s) (with_cause (reset_drawn s) cause.InterfaceControlCheck) = cause-same (reset_drawn s) cause.InterfaceControlCheck in
    record {
      drawn = let n : (with_cause (reset_drawn s) cause.InterfaceControlCheck).drawn ≡ s.drawn + 1 = same.drawn in omega (arith, n);
      available = same.available;
      hold = subst (λ (h : HoldState). IsCalmHold s.hold h) (sym same.hold) (reset-hold s.hold (s.drawn + 1) s.hold.known_restarts);
      disengaged = λ q e. absurd (cc (sym (ap (λ (h : HoldState). engaged_path h.phase) same.hold) ∙ e));
    }

pub reset-is : (s : SubchannelState) → IsReset s (reset_with s (is_offered_or_held s.hold.phase && has_any s.waiting s.begun s.suspended))
reset-is s = reset-with s (is_offered_or_held s.hold.phase && has_any s.waiting s.begun s.suspended)

known-hold : (h x : HoldState) (b : ℕ) → IsCalmHold (record h { known_restarts = b }) x → IsCalmHold h x
known-hold h x b k = record { engaged = λ q e. k.engaged q e; offered = λ t q e. k.offered t q e; remembers = λ accepted m. k.remembers accepted m }

notice-by : (s : SubchannelState) (b : ℕ) (more : Bool) →
    IsCalm s (if more then signal_taken (reset_with (with_known s b) (is_offered_or_held s.hold.phase && has_any s.waiting s.begun s.suspended)) else signal_ignored s)
notice-by s b false = ignored-calm s
notice-by s b true =
    let k : IsReset (with_known s b) _ = reset-is (with_known s b) in
    record { drawn = k.drawn; available = k.available; hold = known-hold s.hold _ b k.hold; sent = tt }

pub notice-calm : (s : SubchannelState) (b : ℕ) → IsCalm s (takes_notice s b)
notice-calm s b = notice-by s b (nat_lt s.hold.known_restarts b)
