-- How a machine is set up, as its configuration lines make it one by one (own). A line that breaks a rule is refused
-- by that rule.
use Rattle.std.specs.Prelude.{ℕ, ◌+◌, ◌==◌, Bool, true, false, not, ◌&&◌, ◌||◌, nat_lt, nat_le, List, [], ◌∷◌, ◌++◌, length, slice_get, slice_set, slice_index_or, Option, Some, None, is_some, unwrap_or, Result, Ok, Err, count_by, if◌then◌else◌}
use Rattle.std.specs.List.{list_any, list_all}
use Rattle.chan_model.specs.declared.names.Side.{Side}
use Rattle.chan_model.specs.declared.names.Side.TheVariants.{First, Second}
use Rattle.channel_config.specs.declared.config.ConfigRule.{ConfigRule}
use Rattle.channel_config.specs.declared.config.ConfigRule.TheVariants.{StorageSize, ChannelPath, UnitNumber, UnitOfSubchannel, PathsOfSubchannel, SharedUnit, SubchannelName, Sets}
use Rattle.channel_config.specs.declared.names.SubchannelId.{SubchannelId}
use Rattle.channel_config.specs.declared.parts.ConcurrentSense.{ConcurrentSense}
use Rattle.channel_config.specs.declared.parts.ConcurrentSense.TheVariants.{Dropped}
use Rattle.channel_config.specs.declared.parts.PathReturn.{PathReturn}
use Rattle.channel_config.specs.declared.parts.PathReturn.TheVariants.{Available}
use Rattle.channel_config.specs.declared.parts.UnitKind.{UnitKind}
use Rattle.channel_config.specs.declared.parts.SubchannelSetup.{SubchannelSetup}
use Rattle.channel_config.specs.SubchannelWords.{subchannel_named}

-- what was said so far: how many blocks of 4,096 bytes storage has, how many sets of subchannels there are, the
-- identifiers of the channel paths, the units and the subchannels in their order; and of each unit the group of units that
-- it shares a control unit with, where it shares one; what MODIFY SUBCHANNEL does with the concurrent-sense bit of the subchannels
-- that are still to come, and how a channel path that is back is reported
pub record Setup : Type 0 where
  pub blocks : Option ℕ
  pub sets : Option ℕ
  pub paths : List ℕ
  pub units : List UnitKind
  pub shared : List (Option ℕ)
  pub subchannels : List SubchannelSetup
  pub concurrent_sense : ConcurrentSense
  pub path_return : PathReturn

abbrev pub no_setup : Setup
no_setup = record { blocks = None; sets = None; paths = []; units = []; shared = []; subchannels = []; concurrent_sense = Dropped; path_return = Available }

-- one set where nothing is said
abbrev pub set_count : Setup → ℕ
set_count s = unwrap_or s.sets 1

-- StorageSize: the blocks are given twice, or are not 10 to 1000 (hexadecimal)
abbrev pub with_storage : Setup → ℕ → Result Setup ConfigRule
with_storage s blocks = if is_some s.blocks || (nat_lt blocks 0x10 || nat_lt 0x1000 blocks) then Err StorageSize else Ok (record s { blocks = Some blocks })

-- Sets: the sets are given twice, or after a subchannel, or are not 1 to 4
abbrev pub with_sets : Setup → ℕ → Result Setup ConfigRule
with_sets s sets = if is_some s.sets || (nat_lt 0 (length s.subchannels) || (nat_lt sets 1 || nat_lt 4 sets)) then Err Sets else Ok (record s { sets = Some sets })

-- what SA22-7832 leaves to the model is as it was said last: of concurrent sense it counts for the subchannels that come after it
abbrev pub with_concurrent_sense : Setup → ConcurrentSense → Setup
with_concurrent_sense s choice = record s { concurrent_sense = choice }

abbrev pub with_path_return : Setup → PathReturn → Setup
with_path_return s choice = record s { path_return = choice }

abbrev pub has_number : List ℕ → ℕ → Bool
has_number numbers n = list_any (λ m. m == n) numbers

-- ChannelPath: the path is given twice, or is above FF
abbrev pub with_path : Setup → ℕ → Result Setup ConfigRule
with_path s chpid = if nat_lt 0xFF chpid || has_number s.paths chpid then Err ChannelPath else Ok (record s { paths = s.paths ++ chpid ∷ [] })

-- UnitNumber: the unit is not the next one, or is above 3FF
abbrev pub with_unit : Setup → ℕ → UnitKind → Result Setup ConfigRule
with_unit s number kind = if not (number == length s.units) || nat_lt 0x3FF number then Err UnitNumber
    else Ok (record s { units = s.units ++ kind ∷ []; shared = s.shared ++ None ∷ [] })

-- how many of these subchannels are of a set, and how many use a unit
abbrev pub count_in_set : List SubchannelSetup → ℕ → ℕ
count_in_set subs set = count_by (λ sub. sub.id.set == set) subs

abbrev pub uses_of : List SubchannelSetup → ℕ → ℕ
uses_of subs unit = count_by (λ sub. sub.unit == unit) subs

abbrev pub if_next : List SubchannelSetup → Option SubchannelId → Option SubchannelId
if_next subs None = None
if_next subs (Some id) = if id.number == count_in_set subs id.set && nat_le id.number 0xFF then Some id else None

-- the subchannel that the word names, where it is the next of its set and not above FF
abbrev pub next_subchannel : Setup → ℕ → Option SubchannelId
next_subchannel s word = if_next s.subchannels (subchannel_named (set_count s) word)

-- the side that is left of a unit
abbrev pub side_left : Setup → ℕ → Option Side
side_left s unit = if nat_le (length s.units) unit || nat_le 2 (uses_of s.subchannels unit) then None
    else Some (if uses_of s.subchannels unit == 0 then First else Second)

abbrev pub are_distinct : List ℕ → Bool
are_distinct [] = true
are_distinct (n ∷ ns) = not (has_number ns n) && are_distinct ns

-- SharedUnit: a unit is unknown, shares a control unit already, or stands twice in the line. The units become a group, which has the
-- number of the first of them
abbrev pub is_alone : Option (Option ℕ) → Bool
is_alone None = false
is_alone (Some None) = true
is_alone (Some (Some group)) = false

abbrev pub may_share : List (Option ℕ) → ℕ → Bool
may_share shared unit = is_alone (slice_get shared unit)

abbrev pub grouped : List (Option ℕ) → ℕ → List ℕ → List (Option ℕ)
grouped shared group [] = shared
grouped shared group (unit ∷ units) = grouped (slice_set shared unit (Some group)) group units

abbrev pub with_share : Setup → List ℕ → Result Setup ConfigRule
with_share s units =
    if list_all (may_share s.shared) units && are_distinct units
    then Ok (record s { shared = grouped s.shared (slice_index_or units 0 0) units })
    else Err SharedUnit

-- the groups of the units, by their numbers; a unit that shares with none is a group of its own number
abbrev pub groups_from : ℕ → List (Option ℕ) → List ℕ
groups_from first [] = []
groups_from first (group ∷ groups) = unwrap_or group first ∷ groups_from (first + 1) groups

abbrev pub groups_of : Setup → List ℕ
groups_of s = groups_from 0 s.shared

-- one to eight different paths, all of them known
abbrev pub are_paths : List ℕ → List ℕ → Bool
are_paths known paths = nat_lt 0 (length paths) && (nat_le (length paths) 8 && (list_all (has_number known) paths && are_distinct paths))

abbrev pub or_rule : {A : Type 0} → ConfigRule → Option A → (A → Result Setup ConfigRule) → Result Setup ConfigRule
or_rule rule None goes_on = Err rule
or_rule rule (Some a) goes_on = goes_on a

-- SubchannelName: the word does not name the next subchannel of a set, or the device number is above FFFF;
-- UnitOfSubchannel: the unit is unknown, or two subchannels use it already;
-- PathsOfSubchannel: a path is unknown or given twice, or there are none or more than eight
abbrev pub with_subchannel : Setup → ℕ → ℕ → ℕ → List ℕ → Result Setup ConfigRule
with_subchannel s word device unit paths =
    or_rule SubchannelName (if nat_lt 0xFFFF device then None else next_subchannel s word) (λ id.
    or_rule UnitOfSubchannel (side_left s unit) (λ side.
    if not (are_paths s.paths paths) then Err PathsOfSubchannel
    else Ok (record s { subchannels = s.subchannels ++ (record { id = id; device = device; unit = unit; side = side; paths = paths; concurrent_sense = s.concurrent_sense }) ∷ [] })))
