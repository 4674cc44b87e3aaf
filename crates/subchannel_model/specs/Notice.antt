-- Notice: the unit tells how often it was restarted (own). Where that is more often than is known, the hold is to be reset.
use Rattle.std.specs.Prelude.{ℕ, nat_lt, if◌then◌else◌}
use Rattle.subchannel_model.specs.declared.state.SubchannelState.{SubchannelState}
use Rattle.subchannel_model.specs.declared.state.UpStep.{UpStep}
use Rattle.subchannel_model.specs.Losing.{reset_for}
use Rattle.subchannel_model.specs.Outcomes.{signal_ignored, signal_taken}

abbrev pub with_known : SubchannelState → ℕ → SubchannelState
with_known s restarts = record s { hold = record s.hold { known_restarts = restarts } }

-- Notice: that count becomes known
abbrev pub takes_notice : SubchannelState → ℕ → UpStep
takes_notice s restarts =
    if nat_lt s.hold.known_restarts restarts then signal_taken (reset_for (with_known s restarts)) else signal_ignored s
