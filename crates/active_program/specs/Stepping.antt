-- A subchannel that a signal changed in place, with what came of the signal.
use Rattle.std.specs.Prelude.{true, false, Option, None}
use Rattle.chan_model.specs.Signals.{Down}
use Rattle.chan_model.specs.declared.signal.OnPath.{OnPath}
use Rattle.chan_model.specs.declared.signal.Taken.{Taken}
use Rattle.subchannel_model.specs.declared.state.SubchannelState.{SubchannelState}
use Rattle.subchannel_model.specs.declared.state.UpStep.{UpStep}

abbrev pub subchannel_stepped : SubchannelState → Taken Down → UpStep
subchannel_stepped s outcome = record { state = s; outcome = outcome }

abbrev pub not_taken : Taken Down
not_taken = record { taken = false; sent = None }

abbrev pub taken_with : Option (OnPath Down) → Taken Down
taken_with sends = record { taken = true; sent = sends }
