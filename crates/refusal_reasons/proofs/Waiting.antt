-- Wires on which nothing waits.
use Rattle.std.proofs.Common.{◌≡◌, ◌≢◌, ◌<◌, ◌+◌, ℕ, sym, subst, arith, ⊎_elim}
use Rattle.std.proofs.lemmas.Bool.{cases_eq}
use Rattle.wires.specs.Queues.{Queues}
use Rattle.step_records.specs.declared.record.Way.{Way}
use Rattle.step_records.specs.declared.record.Way.TheVariants as way
use Rattle.std.specs.Prelude.{List, Option, Some, slice_get, true}
use Rattle.channel_config.specs.declared.parts.SubchannelSetup.{SubchannelSetup}
use Rattle.machine_model.specs.State.{State}
use Rattle.step_records.specs.declared.refusal.Front.{Front}
use Rattle.refusal_reasons.specs.Standing.{HasWires, IsElsewhere, IsEmptyWire, IsWaiting, IsUnitSo, IsWaitingFor, NoneWaits, WaitsFirst, is_quiet}
use Rattle.step_records.specs.declared.refusal.UnitRefusal.{UnitRefusal}
use Rattle.step_records.specs.declared.refusal.UnitRefusal.TheVariants as unit_refusal

-- one path more
pub none-more : (wires : Queues) (on : Way) (n : ℕ) → ((path : ℕ) → path < n → NoneWaits wires on path) → NoneWaits wires on n →
    (path : ℕ) → path < n + 1 → NoneWaits wires on path
none-more wires on n none here path within =
    ⊎_elim
    (λ (e : path ≡ n). subst (λ m. NoneWaits wires on m) (sym e) here)
    (λ (k : path ≢ n). none path (omega (arith, within, k)))
    (cases_eq path n)

-- neither way
pub none-anywhere : (wires : Queues) → ((path : ℕ) → path < 8 → NoneWaits wires way.Down path) → ((path : ℕ) → path < 8 → NoneWaits wires way.Up path) →
    (on : Way) (path : ℕ) → path < 8 → NoneWaits wires on path
none-anywhere wires down up way.Down path small = down path small
none-anywhere wires down up way.Up path small = up path small

-- what is found on the wires of a subchannel
pub empty_wire : (state : State) (setups : List SubchannelSetup) (index : ℕ) (on : Way) (path : ℕ) (elsewhere : Option Front) (wires : Queues) →
    HasWires state setups index wires → NoneWaits wires on path → IsElsewhere wires elsewhere → IsEmptyWire state setups index on path elsewhere
empty_wire state setups index on path elsewhere wires has none others = record { wires = wires; has = has; none = none; others = others }

pub is_waiting : (state : State) (setups : List SubchannelSetup) (index : ℕ) (told : Front) (wires : Queues) →
    HasWires state setups index wires → WaitsFirst wires told.path told.signal → IsWaiting state setups index told
is_waiting state setups index told wires has waits = record { wires = wires; has = has; waits = waits }

pub waits_for : (state : State) (setups : List SubchannelSetup) (number index : ℕ) (told : Front) (setup : SubchannelSetup) →
    slice_get setups index ≡ Some setup → setup.«unit» ≡ number → IsWaiting state setups index told → IsWaitingFor state setups number index told
waits_for state setups number index told setup named reaches waiting =
    record { setup = setup; named = named; reaches = reaches; waiting = waiting }

-- what says nothing of wires is so
pub quiet_so : (state : State) (setups : List SubchannelSetup) (number : ℕ) (why : UnitRefusal) → is_quiet why ≡ true → IsUnitSo state setups number why
quiet_so state setups number (unit_refusal.Signal index told) quiet = absurd (cc quiet)
quiet_so state setups number why quiet = tt
