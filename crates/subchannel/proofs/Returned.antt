-- A Back that is not granted leaves the path that was used last, and the one that was chosen last.
use Rattle.std.proofs.Common.{◌≡◌, refl, sym, ◌∙◌, ap, ℕ, Bool, true, false, Option}
use Rattle.chan_model.specs.Signals.{Down}
use Rattle.chan_model.specs.declared.signal.OnPath.{OnPath}
use Rattle.chan_model.specs.declared.signal.Taken.{Taken}
use Rattle.chan_model.specs.HoldTable.{HoldStep, hold_after, outcome_of}
use Rattle.active_program.specs.declared.met.Met.{Met}
use Rattle.active_program.specs.Sent.{outcome_with}
use Rattle.subchannel_model.specs.declared.state.SubchannelState.{SubchannelState}
use Rattle.subchannel_model.specs.declared.state.UpStep.{UpStep}
use Rattle.subchannel_model.specs.Back.{takes_back, is_granted, with_granted_path}
use Rattle.subchannel_model.specs.Outcomes.{hold_outcome}
use Rattle.active_program.specs.Stepping.{subchannel_stepped}

ungranted : (s : SubchannelState) (outcome : Taken Down) (p : ℕ) (b : Bool) → b ≡ false → subchannel_stepped s outcome ≡ subchannel_stepped (with_granted_path s p b) outcome
ungranted s outcome p false e = refl
ungranted s outcome p true e = absurd (cc e)

pub back_refused : (s : SubchannelState) (p : ℕ) (step : Option HoldStep) (next : SubchannelState) (met : Met) (sent : Option (OnPath Down)) →
    subchannel_stepped next (outcome_with met sent) ≡ hold_outcome s step → is_granted sent ≡ false →
    subchannel_stepped next (outcome_with met sent) ≡ takes_back s p step
back_refused s p step next met sent e g =
    e
    ∙ ungranted (record s { hold = hold_after s.hold step }) (outcome_of step) p (is_granted (outcome_of step).sent)
    (ap (λ (n : UpStep). is_granted n.outcome.sent) (sym e) ∙ g)
