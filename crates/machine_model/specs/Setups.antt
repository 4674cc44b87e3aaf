-- How a machine is set up, as its state shows it.
use Rattle.std.specs.Prelude.{◌≡◌, ℕ, length, map, unwrap_or}
use Rattle.channel_config.specs.Lawful.{IsLawful}
use Rattle.channel_config.specs.Setup.{Setup, set_count, groups_of}
use Rattle.control_units.specs.declared.Member.{Member}
use Rattle.machine_model.specs.State.{State}

abbrev pub group_of : Member → ℕ
group_of m = m.group

-- the machine is set up so, lawfully: by the blocks of its storage, its sets, its channel paths, its subchannels in their
-- order, the number of its units and their groups, and how a channel path that is back is reported; there is room for a request of
-- each subchannel. No step changes any of these
pub record IsSetUp (setup : Setup) (s : State) : Type 0 where
  pub lawful : IsLawful setup
  pub blocks : length s.storage.keys ≡ unwrap_or setup.blocks 16
  pub sets : s.sets ≡ set_count setup
  pub chpids : s.chpids ≡ setup.paths
  pub subs : map (λ sub. sub.setup) s.subs ≡ setup.subchannels
  pub units : length s.units ≡ length setup.units
  pub groups : map group_of s.members ≡ groups_of setup
  pub requests : s.requests.numbers ≡ 0x100
  pub path_return : s.path_return ≡ setup.path_return
