-- Where no program is at work or offered, a signal is a matter of the hold alone.
use Rattle.std.proofs.Common.{◌≡◌, refl, ℕ, Bool, true, false, Option, None, Some, sym, ◌&&◌, ◌==◌, not, nat_lt}
use Rattle.std.specs.Prelude.{if◌then◌else◌, IfSome}
use Rattle.scsw_irb.specs.declared.status.DeviceStatus.{DeviceStatus}
use Rattle.storage_keys.specs.Storage.{Contents}
use Rattle.chan_model.specs.declared.hold_state.HoldPhase.{HoldPhase}
use Rattle.chan_model.specs.declared.hold_state.HoldPhase.TheVariants as hold
use Rattle.chan_model.specs.Signals.{Load, Up}
use Rattle.chan_model.specs.declared.signal.Up.TheVariants as up
use Rattle.chan_model.specs.HoldTable as hold_table
use Rattle.chan_model.specs.HoldTable.{HoldStep, hold_after, outcome_of, is_connected, is_on, left, asked_back, found_busy, released, reset_cleared, attended}
use Rattle.subchannel_model.specs.Notice as on_notice
use Rattle.subchannel_model.specs.declared.signals.DataSignal.{DataSignal}
use Rattle.subchannel_model.specs.declared.signals.EndSignal.{EndSignal}
use Rattle.subchannel_model.specs.declared.state.ActiveProgram.{ActiveProgram}
use Rattle.subchannel_model.specs.declared.state.SubchannelState.{SubchannelState}
use Rattle.subchannel_model.specs.declared.state.UpStep.{UpStep}
use Rattle.subchannel_model.specs.Taking.{takes_up}
use Rattle.subchannel_model.specs.Outcomes as outcomes
use Rattle.subchannel_model.specs.Accept.{takes_device}
use Rattle.subchannel_model.specs.Accept as on_accept
use Rattle.subchannel_model.specs.Data as on_data
use Rattle.subchannel_model.specs.End as on_end
use Rattle.subchannel_model.specs.Cleared as on_cleared
use Rattle.subchannel_model.specs.Back as on_back
use Rattle.subchannel_model.specs.Attention as on_attention
use Rattle.subchannel_model.specs.Losing.{is_offered_or_held, reset_with, reset_for}
use Rattle.subchannel_model.specs.Programs.{has_any}
use Rattle.run_laws.proofs.Traces.MachineTraces as stories
use Rattle.run_laws.specs.Traces.{ProgramTrace}
use Rattle.run_laws.proofs.Traces.MachineTraces.{trace_meets}
use Rattle.run_laws.proofs.Traces.Caused.{clear-begun, attention-begun}
use Rattle.run_laws.proofs.Commands.LinkSent.{IsOfHold, SendsHoldSignal, busy-mutters, left-mutters, back-mutters, released-mutters, cleared-mutters, attended-mutters}

-- the hold alone sends, no program begins or ends, and the trace stays
pub record IsIdle (s : SubchannelState) (step : UpStep) (f : ProgramTrace → ProgramTrace) : Type 0 where
  pub begun : step.state.begun ≡ s.begun
  pub sends : IfSome step.outcome.sent (λ d. IsOfHold d.signal)
  pub same : (k : ProgramTrace) → f k ≡ k

abbrev pub IsNoOffer : HoldPhase → Type 0
IsNoOffer phase = (t p : ℕ) → phase ≡ hold.Offer t p → ⊥

module _ (storage : Contents) (s : SubchannelState) (none : s.begun ≡ None) where
  hold_outcome-idle : (step : Option HoldStep) → SendsHoldSignal step → IsIdle s (outcomes.hold_outcome s step) (λ k. k)
  hold_outcome-idle step m = record { begun = refl; sends = m; same = λ k. refl }

  accept-idle : (phase : HoldPhase) (t : ℕ) (may : Bool) → IsNoOffer phase →
      IsIdle s (on_accept.takes_accept storage s (hold_table.offer_accepted s.hold phase t may)) (stories.trace_accepted storage s (hold_table.offer_accepted s.hold phase t may))
  accept-idle (hold.Offer v p) t may n = absurd (n v p refl)
  accept-idle other t may n = record { begun = refl; sends = tt; same = λ k. refl }

  data-idle : (signal : DataSignal) (l : Load) (x : Bool) (b : Option ActiveProgram) → b ≡ None →
      IsIdle s (if x then on_data.moves_data storage s b signal l else outcomes.with_storage storage (outcomes.signal_ignored s)).step (λ k. if x then stories.answers storage b signal.command signal.sequence l k else k)
  data-idle signal l true None e = record { begun = refl; sends = tt; same = λ k. refl }
  data-idle signal l true (Some b) e = absurd (cc e)
  data-idle signal l false b e = record { begun = refl; sends = tt; same = λ k. refl }

  end-idle : (signal : EndSignal) (x : Bool) (b : Option ActiveProgram) → b ≡ None →
      IsIdle s (if x then on_end.ends_at_work storage s b signal else outcomes.signal_ignored s) (λ k. if x then stories.trace_ends storage s b signal.command signal.status signal.more k else k)
  end-idle signal true None e = record { begun = refl; sends = tt; same = λ k. refl }
  end-idle signal true (Some b) e = absurd (cc e)
  end-idle signal false b e = record { begun = refl; sends = tt; same = λ k. refl }

  reset-idle : (step : Option HoldStep) → SendsHoldSignal step → IsIdle s (on_cleared.takes_cleared s step) (λ k. k)
  reset-idle None m = record { begun = refl; sends = tt; same = λ k. refl }
  reset-idle (Some step) m = record { begun = clear-begun (record s { hold = step.state }); sends = m; same = λ k. refl }

  reset-begun : (c : SubchannelState) (shows : Bool) → c.begun ≡ None → (reset_with c shows).begun ≡ c.begun
  reset-begun c true e = sym e
  reset-begun c false e = refl

  notice-idle : (b : ℕ) (more : Bool) → IsIdle s (if more then outcomes.signal_taken (reset_for (on_notice.with_known s b)) else outcomes.signal_ignored s) (λ k. k)
  notice-idle b true = record { begun = reset-begun (on_notice.with_known s b) (is_offered_or_held s.hold.phase && has_any s.waiting s.begun s.suspended) none; sends = tt; same = λ k. refl }
  notice-idle b false = record { begun = refl; sends = tt; same = λ k. refl }

  back-idle : (p : ℕ) (step : Option HoldStep) → SendsHoldSignal step → IsIdle s (on_back.takes_back s p step) (λ k. k)
  back-idle p step m = record { begun = refl; sends = m; same = λ k. refl }

  attend-idle : (status : DeviceStatus) (step : Option HoldStep) → SendsHoldSignal step → IsIdle s (on_attention.takes_attention s status step) (λ k. k)
  attend-idle status step m = record {
    begun = attention-begun (record s { hold = hold_after s.hold step }) ((outcome_of step).taken && not (status.0 == 0x20));
    sends = m;
    same = λ k. refl;
  }

  pub idle-meets : (returns : Bool) → IsNoOffer s.hold.phase → (p : ℕ) (x : Up) → IsIdle s (takes_up returns storage s p x).step (trace_meets storage s p x)
  idle-meets returns n p (up.Accept t) = accept-idle s.hold.phase t (takes_device s) n
  idle-meets returns n p (up.Data l t c i q) = data-idle (record { path = p; number = t; connection = c; command = i; sequence = q }) l (is_connected s.hold.phase p t c) s.begun none
  idle-meets returns n p (up.End t i status more) = end-idle (record { path = p; number = t; command = i; status = status; more = more }) (is_on s.hold.phase t) s.begun none
  idle-meets returns n p (up.Busy t) = hold_outcome-idle (found_busy s.hold s.hold.phase t) (busy-mutters s.hold s.hold.phase t)
  idle-meets returns n p (up.Leave t c) = hold_outcome-idle (left s.hold s.hold.phase t c) (left-mutters s.hold s.hold.phase t c)
  idle-meets returns n p (up.Back t c) = back-idle p (asked_back s.hold s.hold.phase p t c returns) (back-mutters s.hold s.hold.phase p t c returns)
  idle-meets returns n p (up.Released t) = hold_outcome-idle (released s.hold s.hold.phase t) (released-mutters s.hold s.hold.phase t)
  idle-meets returns n p (up.Cleared r) = reset-idle (reset_cleared s.hold s.hold.phase r) (cleared-mutters s.hold s.hold.phase r)
  idle-meets returns n p (up.Notice b) = notice-idle b (nat_lt s.hold.known_restarts b)
  idle-meets returns n p (up.Attn a status) =
      attend-idle status (attended s.hold s.hold.phase p a (on_attention.may_take_attention s)) (attended-mutters s.hold s.hold.phase p a (on_attention.may_take_attention s))
