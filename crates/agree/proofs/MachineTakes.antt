-- A subchannel takes no signal that a side of a world would not take.
use Rattle.std.proofs.Common.{◌≡◌, refl, ap, ℕ, ◌==◌, ◌&&◌, nat_lt, Bool, true, false, Option, None, Some}
use Rattle.std.specs.Prelude.{if◌then◌else◌}
use Rattle.storage_keys.specs.Storage.{Contents}
use Rattle.chan_model.specs.declared.hold_state.HoldPhase.{HoldPhase}
use Rattle.chan_model.specs.declared.hold_state.HoldPhase.TheVariants as hold
use Rattle.chan_model.specs.declared.hold_state.HoldState.{HoldState}
use Rattle.chan_model.specs.Signals.{Up}
use Rattle.chan_model.specs.declared.signal.Up.TheVariants as up
use Rattle.chan_model.specs.HoldTable.{HoldStep, hold_quietly, program_begun, offer_accepted, asked_back, granting, refusing, reset_cleared, attended, outcome_of, hold_after, is_connected, is_on}
use Rattle.subchannel_model.specs.Losing.{reset_for}
use Rattle.subchannel_model.specs.declared.state.SubchannelState.{SubchannelState}
use Rattle.subchannel_model.specs.declared.state.UpStep.{UpStep}
use Rattle.subchannel_model.specs.declared.signals.EndSignal.{EndSignal}
use Rattle.subchannel_model.specs.declared.signals.DataSignal.{DataSignal}
use Rattle.subchannel_model.specs.Outcomes.{SignalOutcome, with_storage, signal_ignored, signal_taken}
use Rattle.subchannel_model.specs.Accept.{accepted_in_phase, takes_device}
use Rattle.subchannel_model.specs.Data.{moves_data}
use Rattle.subchannel_model.specs.End.{ends_at_work}
use Rattle.subchannel_model.specs.Cleared.{takes_cleared}
use Rattle.subchannel_model.specs.Attention.{may_take_attention}
use Rattle.subchannel_model.specs.Taking.{takes_up}
use Rattle.agree.specs.Replies.{is_taken}

-- the first of two is what was done, where the second takes nothing
if-step : (b : Bool) (x y : UpStep) → y.outcome.taken ≡ false → (if b then x else y).outcome.taken ≡ true → b ≡ true
if-step true x y n e = cc
if-step false x y n e = absurd (cc (n, e))

if-taken : (b : Bool) (x y : SignalOutcome) → y.step.outcome.taken ≡ false → (if b then x else y).step.outcome.taken ≡ true → b ≡ true
if-taken true x y n e = cc
if-taken false x y n e = absurd (cc (n, e))

with-true : (b : Bool) → b ≡ true → (b && true) ≡ true
with-true b e = ap (λ (x : Bool). x && true) e

-- what `may` says decides what is done, not whether
begun-taken : (h : HoldState) (t p : ℕ) (b : Bool) (may : Bool) → (outcome_of (if b then Some (program_begun h t p may) else None)).taken ≡ true → (outcome_of (if b then Some (program_begun h t p true) else None)).taken ≡ true
begun-taken h t p true may e = cc
begun-taken h t p false may e = e

accept-taken : (h : HoldState) (phase : HoldPhase) (t : ℕ) (may : Bool) → (outcome_of (offer_accepted h phase t may)).taken ≡ true → (outcome_of (offer_accepted h phase t true)).taken ≡ true
accept-taken h (hold.Offer u q) t may e = begun-taken h u q (t == u) may e
accept-taken h hold.Free t may e = e
accept-taken h (hold.On u q c) t may e = e
accept-taken h (hold.Away u) t may e = e
accept-taken h (hold.Letting u q) t may e = e
accept-taken h (hold.Reset r) t may e = e

away-taken : (h : HoldState) (p t c : ℕ) (b may : Bool) → (outcome_of (if b then (if may then Some (granting h p t c) else Some (refusing h p t c)) else None)).taken ≡ true →
    (outcome_of (if b then Some (granting h p t c) else None)).taken ≡ true
away-taken h p t c true may e = cc
away-taken h p t c false may e = e

back-taken : (h : HoldState) (phase : HoldPhase) (p t c : ℕ) (may : Bool) → (outcome_of (asked_back h phase p t c may)).taken ≡ true → (outcome_of (asked_back h phase p t c true)).taken ≡ true
back-taken h (hold.Away u) p t c may e = away-taken h p u c ((t == u) && nat_lt h.seen c) may e
back-taken h (hold.On u q d) p t c may e = e
back-taken h hold.Free p t c may e = e
back-taken h (hold.Offer u q) p t c may e = e
back-taken h (hold.Letting u q) p t c may e = e
back-taken h (hold.Reset r) p t c may e = e

attn-taken : (h : HoldState) (phase : HoldPhase) (p a : ℕ) (may : Bool) → (outcome_of (attended h phase p a may)).taken ≡ true → (outcome_of (attended h phase p a true)).taken ≡ true
attn-taken h hold.Free p a may e = cc
attn-taken h (hold.Offer u q) p a may e = e
attn-taken h (hold.On u q d) p a may e = e
attn-taken h (hold.Away u) p a may e = e
attn-taken h (hold.Letting u q) p a may e = e
attn-taken h (hold.Reset r) p a may e = e

reset-taken : (s : SubchannelState) (step : Option HoldStep) → (takes_cleared s step).outcome.taken ≡ true → (outcome_of step).taken ≡ true
reset-taken s None e = e
reset-taken s (Some step) e = e

notice-taken : (h : HoldState) (b : ℕ) (more : Bool) → more ≡ true → (outcome_of (if more then Some (hold_quietly (record h { known_restarts = b })) else None)).taken ≡ true
notice-taken h b true e = cc
notice-taken h b false e = absurd (cc e)

pub machine-takes : (returns : Bool) (storage : Contents) (s : SubchannelState) (p : ℕ) (x : Up) → (takes_up returns storage s p x).step.outcome.taken ≡ true → is_taken s.hold p x true ≡ true
machine-takes returns storage s p (up.Accept t) e =
    let step : Option HoldStep = offer_accepted s.hold s.hold.phase t (takes_device s) in
    accept-taken s.hold s.hold.phase t (takes_device s) (if-step (outcome_of step).taken (accepted_in_phase storage (record s { hold = hold_after s.hold step }) (hold_after s.hold step).phase (outcome_of step)) (signal_ignored s) refl e)
machine-takes returns storage s p (up.Data load t c n m) e =
    let signal : DataSignal = record { path = p; number = t; connection = c; command = n; sequence = m } in
    with-true (is_connected s.hold.phase p t c) (if-taken (is_connected s.hold.phase p t c) (moves_data storage s s.begun signal load) (with_storage storage (signal_ignored s)) refl e)
machine-takes returns storage s p (up.End t n status more) e =
    let signal : EndSignal = record { path = p; number = t; command = n; status = status; more = more } in
    with-true (is_on s.hold.phase t) (if-step (is_on s.hold.phase t) (ends_at_work storage s s.begun signal) (signal_ignored s) refl e)
machine-takes returns storage s p (up.Cleared r) e = reset-taken s (reset_cleared s.hold s.hold.phase r) e
machine-takes returns storage s p (up.Back t c) e = back-taken s.hold s.hold.phase p t c returns e
machine-takes returns storage s p (up.Notice b) e = notice-taken s.hold b (nat_lt s.hold.known_restarts b) (if-step (nat_lt s.hold.known_restarts b) (signal_taken (reset_for (record s { hold = record s.hold { known_restarts = b } }))) (signal_ignored s) refl e)
machine-takes returns storage s p (up.Attn a status) e = attn-taken s.hold s.hold.phase p a (may_take_attention s) e
machine-takes returns storage s p (up.Busy t) e = e
machine-takes returns storage s p (up.Leave t c) e = e
machine-takes returns storage s p (up.Released t) e = e
