-- What a turn of a channel path's worker is for (own).
use Rattle.std.specs.Prelude.{ℕ, List, [], ◌∷◌, Option, None, Some}
use Rattle.chan_events.specs.Events.{Event}
use Rattle.channel_config.specs.declared.parts.SubchannelSetup.{SubchannelSetup}
use Rattle.machine_model.specs.State.{State}
use Rattle.signal_step.specs.PathTurns.{path_turn_of}
use Rattle.unit_driver.specs.Turns.{word_of}

-- a turn of a channel path's worker: the first event that there is for a subchannel
abbrev pub or_turn : Option Event → Option Event → Option Event
or_turn None later = later
or_turn (Some e) later = Some e

abbrev pub path_turn_at : State → ℕ → Option SubchannelSetup → Option Event
path_turn_at s chpid None = None
path_turn_at s chpid (Some setup) = path_turn_of s (word_of setup.id) chpid

abbrev pub path_turn_among : State → ℕ → List SubchannelSetup → Option Event
path_turn_among s chpid [] = None
path_turn_among s chpid (setup ∷ setups) = or_turn (path_turn_at s chpid (Some setup)) (path_turn_among s chpid setups)
