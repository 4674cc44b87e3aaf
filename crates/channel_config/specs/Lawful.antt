-- What the rules keep of a machine's set-up.
use Rattle.std.specs.Prelude.{◌≡◌, ℕ, ◌<◌, ◌≤◌, ◌==◌, ◌&&◌, true, Some, List, length, All, count_by}
use Rattle.std.specs.Option.{ForSome}
use Rattle.chan_model.specs.declared.names.Side.{Side}
use Rattle.chan_model.specs.declared.names.Side.TheVariants.{First, Second}
use Rattle.chan_model.specs.Sides.{same_side}
use Rattle.channel_config.specs.declared.parts.SubchannelSetup.{SubchannelSetup}
use Rattle.channel_config.specs.Setup.{Setup, set_count, count_in_set, are_paths}

-- a subchannel of so many sets, on one of so many units, with paths among these
pub record IsPlaced (sets units : ℕ) (known : List ℕ) (sub : SubchannelSetup) : Type 0 where
  pub set : sub.id.set < sets
  pub number : sub.id.number < 0x100
  pub unit : sub.unit < units
  pub paths : are_paths known sub.paths ≡ true

-- how many of these subchannels reach a side of a unit
abbrev pub uses_by : List SubchannelSetup → ℕ → Side → ℕ
uses_by subs unit side = count_by (λ sub. sub.unit == unit && same_side sub.side side) subs

-- each side of the unit is reached by one subchannel at most, and the second only where the first is
pub record IsShared (subs : List SubchannelSetup) (unit : ℕ) : Type 0 where
  pub first : uses_by subs unit First ≤ 1
  pub second : uses_by subs unit Second ≤ uses_by subs unit First

pub record IsLawful (s : Setup) : Type 0 where
  pub blocks : ForSome s.blocks (λ n. 0x10 ≤ n)
  pub sets : (1 ≤ set_count s) × (set_count s ≤ 4)
  pub units : length s.units ≤ 0x400
  pub shared_units : length s.shared ≡ length s.units
  pub subchannels : All (IsPlaced (set_count s) (length s.units) s.paths) s.subchannels
  pub per_set : (set : ℕ) → count_in_set s.subchannels set ≤ 0x100
  pub shared : (unit : ℕ) → IsShared s.subchannels unit

-- storage of a machine's own has at most 4,096 blocks of 4,096 bytes (own)
abbrev pub MayOwn : Setup → Type 0
MayOwn s = ForSome s.blocks (λ n. n ≤ 0x1000)

-- the same machine with storage of a host, of so many blocks, whatever was said of storage
abbrev pub hosted : Setup → ℕ → Setup
hosted s blocks = record s { blocks = Some blocks }
