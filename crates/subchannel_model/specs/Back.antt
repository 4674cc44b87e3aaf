-- Back: the device that is away asks to be connected again, and the hold answers with Grant or Refuse (SA22-7832, chapter 15, path
-- management; the signals are this project's own).
use Rattle.std.specs.Prelude.{ℕ, Bool, true, false, if◌then◌else◌, Option, None, Some}
use Rattle.chan_model.specs.Signals.{Down}
use Rattle.chan_model.specs.declared.signal.OnPath.{OnPath}
use Rattle.chan_model.specs.declared.signal.Down.TheVariants as down
use Rattle.chan_model.specs.HoldTable.{HoldStep, hold_after, outcome_of}
use Rattle.subchannel_model.specs.declared.state.SubchannelState.{SubchannelState}
use Rattle.subchannel_model.specs.declared.state.UpStep.{UpStep}

-- the answer is a Grant
abbrev pub is_grant : Down → Bool
is_grant (down.Grant t c) = true
is_grant signal = false

-- there is an answer, and it is one
abbrev pub is_granted : Option (OnPath Down) → Bool
is_granted None = false
is_granted (Some answer) = is_grant answer.signal

-- the path of a Grant is the one that was used last, whose bit in the last-path-used mask (LPUM) is one, and the one that was chosen last
abbrev pub with_granted_path : SubchannelState → ℕ → Bool → SubchannelState
with_granted_path s path granted = record s {
  pmcw = record s.pmcw { last_used = if granted then Some path else s.pmcw.last_used };
  last_path = if granted then Some path else s.last_path;
}

-- Back: step is what the hold does with it
abbrev pub takes_back : SubchannelState → ℕ → Option HoldStep → UpStep
takes_back s path step =
    record { state = with_granted_path (record s { hold = hold_after s.hold step }) path (is_granted (outcome_of step).sent); outcome = outcome_of step }
