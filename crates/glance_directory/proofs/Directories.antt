-- The names of a machine's subchannels, which no step changes.
use Rattle.std.proofs.Common.{◌≡◌, ℕ, List, [], ◌∷◌, map, length, Option, None, Some, refl, sym, ap, ◌∙◌}
use Rattle.std.specs.Prelude.{if◌then◌else◌, replicate}
use Rattle.channel_config.specs.declared.names.SubchannelId.{SubchannelId}
use Rattle.channel_config.specs.declared.parts.SubchannelSetup.{SubchannelSetup}
use Rattle.channel_config.specs.Setup.{Setup}
use Rattle.channel_config.specs.SubchannelWords.{subchannel_named}
use Rattle.subchannel_model.specs.declared.state.Subchannel.{Subchannel}
use Rattle.subchannel_model.specs.Opening.{opened}
use Rattle.subchannel_model.specs.Indices.{index_in, index_of_id, one_later}
use Rattle.machine_model.specs.State.{State, opening_of, index_of}
use Rattle.machine_model.specs.Setups.{IsSetUp}
use Rattle.subsystem.specs.Keeping.{all_serials}
use Rattle.glance_directory.specs.Directory.{Directory, directory_by, directory_of, is_name, named_index, index_named, index_of_name, setup_of}
use Rattle.glance_directory.specs.Cells.{serials}

-- a name is found where its subchannel stands
name_stands : (id : SubchannelId) (subs : List Subchannel) → named_index id (map setup_of subs) ≡ index_in id subs
name_stands id [] = refl
name_stands id (sub ∷ subs) = ap (λ (o : Option ℕ). if is_name id (setup_of sub) then Some 0 else one_later o) (name_stands id subs)

named_stands : (o : Option SubchannelId) (subs : List Subchannel) → index_of_name (map setup_of subs) o ≡ index_of_id subs o
named_stands None subs = refl
named_stands (Some id) subs = name_stands id subs

pub index_is : (s : State) (word : ℕ) → index_named (directory_of s) word ≡ index_of s word
index_is s word = named_stands (subchannel_named s.sets word) s.subs

pub directory_is : (setup : Setup) (s : State) → IsSetUp setup s → directory_of s ≡ directory_by setup
directory_is setup s i j = record { sets = i.sets j; setups = i.subs j }

pub is_named : (setup : Setup) (s : State) (d : Directory) → IsSetUp setup s → directory_by setup ≡ d → directory_of s ≡ d
is_named setup s d i is = directory_is setup s i ∙ is

-- at the opening
opened_setups : (setups : List SubchannelSetup) → map setup_of (map opened setups) ≡ setups
opened_setups [] = refl
opened_setups (setup ∷ setups) = ap (λ l. setup ∷ l) (opened_setups setups)

pub opening_directory : (setup : Setup) → directory_by setup ≡ directory_of (opening_of setup)
opening_directory setup j = record { sets = (directory_by setup).sets; setups = sym (opened_setups setup.subchannels) j }

opened_serials : (setups : List SubchannelSetup) → replicate (length setups) (serials 0 0) ≡ map (λ (sub : Subchannel). sub.state.serials) (map opened setups)
opened_serials [] = refl
opened_serials (setup ∷ setups) = ap (λ l. serials 0 0 ∷ l) (opened_serials setups)

pub opening_serials : (setup : Setup) → replicate (length setup.subchannels) (serials 0 0) ≡ all_serials (opening_of setup)
opening_serials setup = opened_serials setup.subchannels
