-- What a subchannel makes of a signal that came up by a path (own): its next state, whether it took the signal, and what it sends.
use Rattle.std.specs.Prelude.{ℕ, true, false, Option, None, Some}
use Rattle.storage_keys.specs.Storage.{Contents}
use Rattle.chan_model.specs.Signals.{Down}
use Rattle.chan_model.specs.HoldTable.{HoldStep, hold_after, outcome_of, letting_go}
use Rattle.subchannel_model.specs.declared.state.SubchannelState.{SubchannelState}
use Rattle.subchannel_model.specs.declared.state.UpStep.{UpStep}

-- that, with storage as it is left
pub record SignalOutcome : Type 0 where
  pub step : UpStep
  pub storage : Contents

abbrev pub with_storage : Contents → UpStep → SignalOutcome
with_storage storage step = record { step = step; storage = storage }

-- the signal is not taken
abbrev pub signal_ignored : SubchannelState → UpStep
signal_ignored s = record { state = s; outcome = record { taken = false; sent = None } }

-- the signal is taken, and nothing is sent
abbrev pub signal_taken : SubchannelState → UpStep
signal_taken s = record { state = s; outcome = record { taken = true; sent = None } }

-- the signal is taken, and one is sent by this path
abbrev pub signal_answered : SubchannelState → ℕ → Down → UpStep
signal_answered s path signal = record { state = s; outcome = record { taken = true; sent = Some (record { path = path; signal = signal }) } }

-- the signal is taken, and the hold lets the device go, where it is connected: a Release is sent
abbrev pub device_released : SubchannelState → UpStep
device_released s =
    let step = letting_go s.hold s.hold.phase in
    record { state = record s { hold = hold_after s.hold step }; outcome = record { taken = true; sent = (outcome_of step).sent } }

-- the hold alone takes the signal, or doesn't
abbrev pub hold_outcome : SubchannelState → Option HoldStep → UpStep
hold_outcome s step = record { state = record s { hold = hold_after s.hold step }; outcome = outcome_of step }
