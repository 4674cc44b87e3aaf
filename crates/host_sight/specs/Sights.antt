-- Looks at a machine in numbers: what is there, or why it is not (own).
use Rattle.std.specs.Prelude.{ℕ, nat_lt, length, List, slice_get, Option, None, Some, Result, Ok, Err, if◌then◌else◌}
use Rattle.chan_model.specs.declared.fault.Fault.{Fault}
use Rattle.chan_model.specs.declared.fault.Fault.TheVariants as fault
use Rattle.machine_model.specs.State.{State, sub_of}
use Rattle.subchannel_model.specs.declared.state.Subchannel.{Subchannel}
use Rattle.wires.specs.Queues.{queue}
use Rattle.host_sight.specs.Holds.{hold_told}
use Rattle.host_sight.specs.Programs.{programs_told}
use Rattle.host_sight.specs.Signals.{down_told, up_told}
use Rattle.host_sight.specs.Units.{unit_told}
use Rattle.host_sight.specs.Waiting.{wires_told}
use Rattle.host_sight.specs.declared.holds.HostHold.{HostHold}
use Rattle.host_sight.specs.declared.programs.HostPrograms.{HostPrograms}
use Rattle.host_sight.specs.declared.signals.HostSignal.{HostSignal}
use Rattle.host_sight.specs.declared.units.HostUnit.{HostUnit}
use Rattle.host_sight.specs.declared.waiting.HostWires.{HostWires}

-- what is told of what is found
abbrev pub where_found : {A B : Type 0} → Fault → (A → B) → Option A → Result B Fault
where_found missing told None = Err missing
where_found missing told (Some found) = Ok (told found)

abbrev pub hold_at : State → ℕ → Result HostHold Fault
hold_at s word = where_found fault.NoSuchSubchannel (λ sub. hold_told sub.state.hold) (sub_of s word)

abbrev pub programs_at : State → ℕ → Result HostPrograms Fault
programs_at s word = where_found fault.NoSuchSubchannel (λ sub. programs_told sub.state) (sub_of s word)

abbrev pub wires_at : State → ℕ → Result HostWires Fault
wires_at s word = where_found fault.NoSuchSubchannel (λ sub. wires_told sub.wires) (sub_of s word)

abbrev pub unit_at : State → ℕ → Result HostUnit Fault
unit_at s at = where_found fault.NoSuchUnit unit_told (slice_get s.units at)

-- the signal at an index of a wire, 0 for that which waits longest: on one of the paths that the subchannel has, where so many wait
abbrev pub signal_on : {A : Type 0} → (A → HostSignal) → (Subchannel → List (List A)) → (path index : ℕ) → Option Subchannel → Result HostSignal Fault
signal_on told queues path index None = Err fault.NoSuchSubchannel
signal_on told queues path index (Some sub) =
    if nat_lt path (length sub.setup.paths) then where_found fault.NotSent told (slice_get (queue (queues sub) path) index)
    else Err fault.NoSuchPath

abbrev pub down_at : State → (word path index : ℕ) → Result HostSignal Fault
down_at s word path index = signal_on down_told (λ sub. sub.wires.down) path index (sub_of s word)

abbrev pub up_at : State → (word path index : ℕ) → Result HostSignal Fault
up_at s word path index = signal_on up_told (λ sub. sub.wires.up) path index (sub_of s word)
