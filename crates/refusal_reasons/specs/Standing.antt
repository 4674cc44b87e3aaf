-- What refusals say of the wires of a machine, and of the bits of an operand.
use Rattle.std.specs.Prelude.{◌≡◌, ◌≢◌, ◌<◌, ⊤, ℕ, Bool, true, false, List, slice_get, Option, None, Some}
use Rattle.zbits.specs.Bits.{field_of}
use Rattle.zbits.specs.Words.{word_at}
use Rattle.chan_model.specs.Signals.{down_in, up_in}
use Rattle.channel_config.specs.declared.parts.SubchannelSetup.{SubchannelSetup}
use Rattle.wires.specs.Queues.{Queues, first_of}
use Rattle.subchannel_model.specs.declared.state.Subchannel.{Subchannel}
use Rattle.machine_model.specs.State.{State, sub_of}
use Rattle.step_records.specs.Named.{word_of}
use Rattle.step_records.specs.declared.record.Way.{Way}
use Rattle.step_records.specs.declared.record.Way.TheVariants as way
use Rattle.step_records.specs.declared.refusal.Front.{Front}
use Rattle.step_records.specs.declared.refusal.FrontSignal.{FrontSignal}
use Rattle.step_records.specs.declared.refusal.FrontSignal.TheVariants as front
use Rattle.step_records.specs.declared.refusal.OrbBit.{OrbBit}
use Rattle.step_records.specs.declared.refusal.OrbBit.TheVariants as orb_bit
use Rattle.step_records.specs.declared.refusal.Refusal.{Refusal}
use Rattle.step_records.specs.declared.refusal.Refusal.TheVariants as refusal
use Rattle.step_records.specs.declared.refusal.UnitRefusal.{UnitRefusal}
use Rattle.step_records.specs.declared.refusal.UnitRefusal.TheVariants as unit_refusal

-- these are the wires of the subchannel at an index of the set-ups
pub record HasWires (state : State) (setups : List SubchannelSetup) (index : ℕ) (wires : Queues) : Type 0 where
  pub setup : SubchannelSetup
  pub named : slice_get setups index ≡ Some setup
  pub sub : Subchannel
  pub there : sub_of state (word_of setup.id) ≡ Some sub
  pub are : wires ≡ sub.wires

-- a signal, whatever its bytes, waits longest on the wire of a path
abbrev pub WaitsFirst : Queues → ℕ → FrontSignal → Type 0
WaitsFirst wires path (front.Down kept) = (bytes : List ℕ) × (first_of wires.down path ≡ Some (down_in kept bytes))
WaitsFirst wires path (front.Up kept) = (bytes : List ℕ) × (first_of wires.up path ≡ Some (up_in kept bytes))

-- nothing waits on the wire of a path
abbrev pub NoneWaits : Queues → Way → ℕ → Type 0
NoneWaits wires way.Down path = first_of wires.down path ≡ None
NoneWaits wires way.Up path = first_of wires.up path ≡ None

-- what is said to wait elsewhere does, and where nothing is said to wait, nothing does on any wire
abbrev pub IsElsewhere : Queues → Option Front → Type 0
IsElsewhere wires (Some told) = WaitsFirst wires told.path told.signal
IsElsewhere wires None = (way : Way) (path : ℕ) → path < 8 → NoneWaits wires way path

-- nothing waits on a wire of a subchannel, and what is said of its other wires is so
pub record IsEmptyWire (state : State) (setups : List SubchannelSetup) (index : ℕ) (way : Way) (path : ℕ) (elsewhere : Option Front) : Type 0 where
  pub wires : Queues
  pub has : HasWires state setups index wires
  pub none : NoneWaits wires way path
  pub others : IsElsewhere wires elsewhere

-- a signal waits at the subchannel of an index
pub record IsWaiting (state : State) (setups : List SubchannelSetup) (index : ℕ) (told : Front) : Type 0 where
  pub wires : Queues
  pub has : HasWires state setups index wires
  pub waits : WaitsFirst wires told.path told.signal

-- and that subchannel reaches the unit of this number
pub record IsWaitingFor (state : State) (setups : List SubchannelSetup) (number index : ℕ) (told : Front) : Type 0 where
  pub setup : SubchannelSetup
  pub named : slice_get setups index ≡ Some setup
  pub reaches : setup.«unit» ≡ number
  pub waiting : IsWaiting state setups index told

abbrev pub IsUnitSo : State → List SubchannelSetup → ℕ → UnitRefusal → Type 0
IsUnitSo state setups number (unit_refusal.Signal index told) = IsWaitingFor state setups number index told
IsUnitSo state setups number other = ⊤

-- a reason that says nothing of wires
abbrev pub is_quiet : UnitRefusal → Bool
is_quiet (unit_refusal.Signal index told) = false
is_quiet other = true

-- what a refusal says of wires is so
abbrev pub IsSo : State → List SubchannelSetup → Refusal → Type 0
IsSo state setups (refusal.NothingWaits wire elsewhere) = IsEmptyWire state setups wire.subchannel wire.way wire.path elsewhere
IsSo state setups (refusal.Unit number why) = IsUnitSo state setups number why
IsSo state setups other = ⊤

-- a bit of an operation-request block is one
abbrev pub IsOneIn : List ℕ → OrbBit → Type 0
IsOneIn image orb_bit.ChannelProgramType = field_of (word_at image 1) 13 13 ≢ 0
IsOneIn image orb_bit.Extension = field_of (word_at image 1) 31 31 ≢ 0
IsOneIn image orb_bit.Reserved = field_of (word_at image 1) 26 31 ≢ 0
IsOneIn image orb_bit.ProgramAddress = field_of (word_at image 2) 0 0 ≢ 0
