-- The subchannels of a machine as they are set up, which no event changes (SA22-7832, chapter 13).
use Rattle.std.specs.Prelude.{ℕ, ◌+◌, ◌==◌, ◌&&◌, Bool, false, List, [], ◌∷◌, map, Option, None, Some, option_map, if◌then◌else◌}
use Rattle.channel_config.specs.declared.names.SubchannelId.{SubchannelId}
use Rattle.channel_config.specs.declared.parts.SubchannelSetup.{SubchannelSetup}
use Rattle.channel_config.specs.Setup.{Setup, set_count}
use Rattle.channel_config.specs.SubchannelWords.{subchannel_named}
use Rattle.subchannel_model.specs.declared.state.Subchannel.{Subchannel}
use Rattle.machine_model.specs.State.{State}

-- how many sets of subchannels there are, and each subchannel in the order of the configuration
pub record Directory : Type 0 where
  pub sets : ℕ
  pub setups : List SubchannelSetup

-- the subchannels of a configuration
abbrev pub directory_by : Setup → Directory
directory_by setup = record { sets = set_count setup; setups = setup.subchannels }

abbrev pub setup_of : Subchannel → SubchannelSetup
setup_of sub = sub.setup

abbrev pub directory_of : State → Directory
directory_of s = record { sets = s.sets; setups = map setup_of s.subs }

abbrev pub is_name : SubchannelId → SubchannelSetup → Bool
is_name id setup = (setup.id.set == id.set) && (setup.id.number == id.number)

abbrev pub is_name_at : SubchannelId → Option SubchannelSetup → Bool
is_name_at id None = false
is_name_at id (Some setup) = is_name id setup

-- the index of the first subchannel of this name
abbrev pub named_index : SubchannelId → List SubchannelSetup → Option ℕ
named_index id [] = None
named_index id (setup ∷ setups) = if is_name id setup then Some 0 else option_map (λ index. index + 1) (named_index id setups)

abbrev pub index_of_name : List SubchannelSetup → Option SubchannelId → Option ℕ
index_of_name setups None = None
index_of_name setups (Some id) = named_index id setups

-- the index of the subchannel that a subsystem-identification word names
abbrev pub index_named : Directory → ℕ → Option ℕ
index_named d word = index_of_name d.setups (subchannel_named d.sets word)
