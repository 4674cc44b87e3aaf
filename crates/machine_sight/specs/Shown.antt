-- What a look at a machine shows.
use Rattle.std.specs.Prelude.{◌≡◌, ◌≢◌, ◌<◌, ◌≤◌, ◌+◌, ◌==◌, ⊤, ℕ, Bool, false, List, [], ◌∷◌, length, map, take, slice_get, slice_index_or, None, Some}
use Rattle.zbits.specs.Bits.{bit_of}
use Rattle.channel_config.specs.declared.parts.SubchannelSetup.{SubchannelSetup}
use Rattle.functions.specs.Unwired.{Unwired}
use Rattle.interruptions.specs.Requests.{has_request}
use Rattle.wires.specs.Queues.{Queues, queue}
use Rattle.subchannel_model.specs.declared.state.Subchannel.{Subchannel}
use Rattle.machine_model.specs.State.{State, sub_of}
use Rattle.machine_sight.specs.Waiting.{WaitingQueues, waits_at}
use Rattle.machine_sight.specs.declared.sight.Sight.{Sight}
use Rattle.step_records.specs.Named.{word_of}
use Rattle.step_records.specs.declared.parties.Parties.{Parties}
use Rattle.step_records.specs.declared.record.Signal.{Signal}
use Rattle.step_records.specs.declared.record.Signal.TheVariants as signal
use Rattle.step_records.specs.declared.record.Way.{Way}
use Rattle.step_records.specs.declared.record.Way.TheVariants.{Down, Up}

-- a subchannel is that which a word names, and this is its state
pub record ShowsWord (state : State) (word : ℕ) (seen : Unwired) : Type 0 where
  pub sub : Subchannel
  pub there : sub_of state word ≡ Some sub
  pub setup : seen.setup ≡ sub.setup
  pub as_it_is : seen.state ≡ sub.state

abbrev pub ShowsNamed : State → SubchannelSetup → Unwired → Type 0
ShowsNamed state setup seen = ShowsWord state (word_of setup.id) seen

-- the states are those of the subchannels of these set-ups, in their order, and of no other
abbrev pub ShowsEach : State → List SubchannelSetup → List Unwired → Type 0
ShowsEach state [] [] = ⊤
ShowsEach state (setup ∷ setups) (seen ∷ sights) = ShowsNamed state setup seen × ShowsEach state setups sights
ShowsEach state setups sights = ⊥

-- whether a channel path is configured and not down
abbrev pub is_up : State → ℕ → Bool
is_up state chpid = slice_index_or state.up chpid false

-- a look at a machine shows its subchannels, its units, which of the channel paths are up, of which subclasses a request waits, and how
-- many reports wait
pub record Shows (state : State) (parties : Parties) (sight : Sight) : Type 0 where
  pub subchannels : ShowsEach state parties.subchannels.items sight.subchannels.items
  pub units : sight.units.items ≡ take (length parties.units.items) state.units
  pub up : sight.up.items ≡ map (is_up state) parties.paths.items
  pub requests : (subclass : ℕ) → subclass < 8 → (bit_of sight.requested (24 + subclass) == 1) ≡ has_request state.requests subclass
  pub reports : sight.reports ≡ length state.reports.reports

-- each subchannel that is named is there, and each unit
abbrev pub AreNamed : State → List SubchannelSetup → Type 0
AreNamed state setups = (index : ℕ) (setup : SubchannelSetup) → slice_get setups index ≡ Some setup → sub_of state (word_of setup.id) ≢ None

pub record AreThere (state : State) (parties : Parties) : Type 0 where
  pub subchannels : AreNamed state parties.subchannels.items
  pub units : length parties.units.items ≤ length state.units
  pub numbered : length parties.units.items ≤ 0x1_0000

-- what waits on the wires of a path, as it is told
abbrev pub downs_on : Queues → ℕ → List Signal
downs_on wires path = map (λ s. signal.Down s) (queue wires.down path)

abbrev pub ups_on : Queues → ℕ → List Signal
ups_on wires path = map (λ s. signal.Up s) (queue wires.up path)

abbrev pub told_on : Queues → Way → ℕ → List Signal
told_on wires Down path = downs_on wires path
told_on wires Up path = ups_on wires path

-- what waits on the wires of a subchannel is told
abbrev pub TellsWires : Queues → WaitingQueues → Type 0
TellsWires wires waiting = (way : Way) (path : ℕ) → path < 8 → waits_at (Some waiting) way path ≡ told_on wires way path

-- so it is of the subchannel that a word names
pub record TellsWord (state : State) (word : ℕ) (waiting : List WaitingQueues) (index : ℕ) : Type 0 where
  pub sub : Subchannel
  pub there : sub_of state word ≡ Some sub
  pub tells : (way : Way) (path : ℕ) → path < 8 → waits_at (slice_get waiting index) way path ≡ told_on sub.wires way path

-- what waits at a machine is told, of each subchannel
abbrev pub TellsWaiting : State → List SubchannelSetup → List WaitingQueues → Type 0
TellsWaiting state setups waiting = (index : ℕ) (setup : SubchannelSetup) → slice_get setups index ≡ Some setup → TellsWord state (word_of setup.id) waiting index
