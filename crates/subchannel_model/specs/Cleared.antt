-- Cleared: the unit performed the Reset that the hold sent (SA22-7832, chapter 15, clear function; the signal is this project's own).
use Rattle.std.specs.Prelude.{if◌then◌else◌, Option, None, Some}
use Rattle.chan_model.specs.HoldTable.{HoldStep, outcome_of}
use Rattle.subchannel_model.specs.declared.state.SubchannelState.{SubchannelState}
use Rattle.subchannel_model.specs.declared.state.UpStep.{UpStep}
use Rattle.subchannel_model.specs.declared.cause.StatusCause.TheVariants as cause
use Rattle.subchannel_model.specs.Causes.{with_cause}
use Rattle.subchannel_model.specs.Outcomes.{signal_ignored}

-- a clear that is pending is performed
abbrev pub clear_performed : SubchannelState → SubchannelState
clear_performed s = if s.scsw.activity.clear_pending then with_cause s cause.ClearDone else s

-- Cleared: step is what the hold does with it
abbrev pub takes_cleared : SubchannelState → Option HoldStep → UpStep
takes_cleared s None = signal_ignored s
takes_cleared s (Some step) = record { state = clear_performed (record s { hold = step.state }); outcome = outcome_of (Some step) }
