-- A reason for which an action was refused names what the action names.
use Rattle.std.specs.Prelude.{◌≡◌, ⊤, ℕ, Bool, true, false, nat_le, List, length, slice_get, Option, None, Some, option_map}
use Rattle.std.specs.List.{list_any}
use Rattle.chan_model.specs.declared.fault.Fault.{Fault}
use Rattle.chan_model.specs.declared.fault.Fault.TheVariants as fault
use Rattle.chan_model.specs.declared.names.Side.{Side}
use Rattle.channel_config.specs.SubchannelWords.{subchannel_named}
use Rattle.channel_config.specs.declared.names.SubchannelId.{SubchannelId}
use Rattle.channel_config.specs.declared.parts.SubchannelSetup.{SubchannelSetup}
use Rattle.machine_model.specs.State.{State}
use Rattle.orb_block.specs.OrbTable.{IsAllowedOrb}
use Rattle.refusal_reasons.specs.Actions.{word_instructed, word_named, index_named, wire_named, unit_named, unit_acting, act_named, side_named, chpid_named, path_standing, address_named, boundary_wanted, path_operand, is_modify, IsOrbOf}
use Rattle.refusal_reasons.specs.Standing.{HasWires, IsOneIn, NoneWaits}
use Rattle.script_rows.specs.declared.Action.{Action}
use Rattle.step_records.specs.declared.parties.Parties.{Parties}
use Rattle.step_records.specs.declared.record.Wire.{Wire}
use Rattle.step_records.specs.declared.refusal.OperandRefusal.{OperandRefusal}
use Rattle.step_records.specs.declared.refusal.OperandRefusal.TheVariants as operand
use Rattle.step_records.specs.declared.refusal.Refusal.{Refusal}
use Rattle.step_records.specs.declared.refusal.Refusal.TheVariants as refusal
use Rattle.step_records.specs.declared.refusal.StorageRefusal.{StorageRefusal}
use Rattle.step_records.specs.declared.refusal.StorageRefusal.TheVariants as storage_refusal
use Rattle.step_records.specs.declared.refusal.UnitRefusal.{UnitRefusal}
use Rattle.step_records.specs.declared.refusal.UnitRefusal.TheVariants as unit_refusal
use Rattle.storage_keys.specs.Storage.{Contents}
use Rattle.wires.specs.Queues.{Queues}

-- how many paths the subchannel at an index has
abbrev pub path_count : SubchannelSetup → ℕ
path_count setup = length setup.paths

abbrev pub path_count_at : List SubchannelSetup → ℕ → Option ℕ
path_count_at setups index = option_map path_count (slice_get setups index)

-- whether there is a subchannel of this set or of one behind it
abbrev pub has_set : List SubchannelSetup → ℕ → Bool
has_set setups set = list_any (λ (s : SubchannelSetup). nat_le set s.id.set) setups

-- a word names a subchannel of a set that has subchannels, or of one that has none
abbrev pub IsOfSet : List SubchannelSetup → ℕ → Bool → Type 0
IsOfSet setups word there = (id : SubchannelId) × (subchannel_named 4 word ≡ Some id) × (has_set setups id.set ≡ there)

-- the word of the instruction of an action is of a set that has subchannels
abbrev pub IsWordRight : List SubchannelSetup → Action → Type 0
IsWordRight setups asked = (word : ℕ) → word_instructed asked ≡ Some word → IsOfSet setups word true

-- nothing is known to be wrong with an operand of an action: its word is right, the operation-request block that it fetches is allowed,
-- it modifies no subchannel, and it resets no channel path
pub record HasNoWrongOperand (storage : Contents) (setups : List SubchannelSetup) (asked : Action) : Type 0 where
  pub word : IsWordRight setups asked
  pub orb : (image : List ℕ) → IsOrbOf storage asked image → IsAllowedOrb image
  pub modifies : is_modify asked ≡ false
  pub resets : path_operand asked ≡ None

-- where these are the wires of a subchannel, a signal waits on the wire of a path
abbrev pub IsBusy : State → List SubchannelSetup → Wire → Type 0
IsBusy state setups wire = (wires : Queues) → HasWires state setups wire.subchannel wires → NoneWaits wires wire.way wire.path → ⊥

-- nothing more than the fault is told only where the action names nothing that a reason of this fault could name: no subchannel; neither
-- a channel path nor a subchannel that is there; no unit; neither a channel path nor a unit to act that is there; no wire on which
-- nothing waits; no address; no operand that is known to be wrong. For want of memory and for a full wire there is always a reason
abbrev pub IsNothingNamed : State → Contents → Parties → Action → Fault → Type 0
IsNothingNamed state storage parties asked fault.NoMemory = ⊥
IsNothingNamed state storage parties asked fault.WireFull = ⊥
IsNothingNamed state storage parties asked fault.NotSent = (wire : Wire) → wire_named parties asked ≡ Some wire → IsBusy state parties.subchannels.items wire
IsNothingNamed state storage parties asked fault.NoSuchSubchannel = word_named asked ≡ None
IsNothingNamed state storage parties asked fault.NoSuchPath = (chpid_named asked ≡ None) × (index_named parties asked ≡ None)
IsNothingNamed state storage parties asked fault.NoSuchUnit = unit_named asked ≡ None
IsNothingNamed state storage parties asked fault.NotNow =
    (chpid_named asked ≡ None) × ((number : ℕ) → unit_acting asked ≡ Some number → slice_get state.units number ≡ None)
IsNothingNamed state storage parties asked (fault.ConfigBad rule) = ⊤
IsNothingNamed state storage parties asked (fault.ScriptBad line rule) = ⊤
IsNothingNamed state storage parties asked (fault.Storage kind) = address_named asked ≡ None
IsNothingNamed state storage parties asked fault.Operand = HasNoWrongOperand storage parties.subchannels.items asked

-- what is told of a word is so: it names no subchannel of any set, or one of a set that has no subchannels
abbrev pub IsWordWrong : List SubchannelSetup → ℕ → OperandRefusal → Type 0
IsWordWrong setups word (operand.Identification told) = (told ≡ word) × (subchannel_named 4 word ≡ None)
IsWordWrong setups word (operand.EmptySet told) = (told ≡ word) × IsOfSet setups word false
IsWordWrong setups word other = ⊥

-- the operand that is told is one of the action: the word of its instruction, which is wrong; where the word is right, a bit that is one
-- in the operation-request block that it fetches, or the block of MODIFY SUBCHANNEL; or what RESET CHANNEL PATH has for a path
abbrev pub IsOperandOf : Contents → List SubchannelSetup → Action → OperandRefusal → Type 0
IsOperandOf storage setups asked (operand.Orb bit) = IsWordRight setups asked × ((image : List ℕ) × IsOrbOf storage asked image × IsOneIn image bit)
IsOperandOf storage setups asked operand.Schib = IsWordRight setups asked × (is_modify asked ≡ true)
IsOperandOf storage setups asked (operand.ChannelPath chpid) = path_operand asked ≡ Some chpid
IsOperandOf storage setups asked other = (word : ℕ) × (word_instructed asked ≡ Some word) × IsWordWrong setups word other

-- where storage wants another boundary, it is the one that the address of the action must be on
abbrev pub IsBoundaryOf : Action → StorageRefusal → Type 0
IsBoundaryOf asked (storage_refusal.Specification boundary) = boundary_wanted asked ≡ boundary
IsBoundaryOf asked other = ⊤

-- where a side of the unit is told, it is the one that the act names
abbrev pub IsSideOf : Option Side → UnitRefusal → Type 0
IsSideOf named (unit_refusal.Unreached side) = named ≡ Some side
IsSideOf named (unit_refusal.NotReset side) = named ≡ Some side
IsSideOf named (unit_refusal.NotRestarted side) = named ≡ Some side
IsSideOf named other = ⊤

-- a reason names what the action names, at a machine in this state, with this storage
unfoldable pub IsNamed : State → Contents → Parties → Action → Refusal → Type 0
IsNamed state storage parties asked (refusal.Bare alone) = IsNothingNamed state storage parties asked alone
IsNamed state storage parties asked refusal.NoMemory = ⊤
IsNamed state storage parties asked refusal.WireFull = ⊤
IsNamed state storage parties asked (refusal.NothingWaits wire elsewhere) = wire_named parties asked ≡ Some wire
IsNamed state storage parties asked (refusal.NoSubchannel word) = word_named asked ≡ Some word
IsNamed state storage parties asked (refusal.NoPath index count) =
    (index_named parties asked ≡ Some index) × (path_count_at parties.subchannels.items index ≡ Some count)
IsNamed state storage parties asked (refusal.NoChannelPath chpid) = chpid_named asked ≡ Some chpid
IsNamed state storage parties asked (refusal.NoUnit number) = unit_named asked ≡ Some number
IsNamed state storage parties asked (refusal.Path chpid why) = (chpid_named asked ≡ Some chpid) × (path_standing asked ≡ Some why)
IsNamed state storage parties asked (refusal.Unit number why) = (unit_acting asked ≡ Some number) × IsSideOf (side_named (act_named asked)) why
IsNamed state storage parties asked (refusal.Storage address why) = (address_named asked ≡ Some address) × IsBoundaryOf asked why
IsNamed state storage parties asked (refusal.Operand why) = IsOperandOf storage parties.subchannels.items asked why
