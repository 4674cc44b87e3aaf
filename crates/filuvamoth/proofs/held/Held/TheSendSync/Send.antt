-- What it leads to owns no key, as the machine may go to another thread.
use mir.Raw.{raw}
use base.Shift.{Keyless}
use denote.Memory.{lone}
use denote.RawPtr.{Ptr}
use denote.Struct.Struct.{exits_of}
use denote.Struct.Owning.{shape, fields, to}
use denote.Param.Send.{IsSend, AllSend, owning_send, struct_send, sendable}
use Rattle.std.specs.Prelude.{Option, Some, None}
use Rattle.std.proofs.Crossing as crossing
use Rattle.std_alloc.proofs.SendSync.{quiet, lies}
use Rattle.host_machine.specs.contracts.host_machine.HostMachine.{the_row as R}
use Rattle.host_machine.proofs.host_machine.HostMachine.TheSendSync.{the_send as machine}
use Rattle.filuvamoth.specs.Held.{Machine, heap, held_owns}
use Rattle.filuvamoth.specs.contracts.held.Held.{the_row, the_type}

owned : (p : Ptr) (o : Option Machine) → Keyless (held_owns p o)
owned p None = tt
owned p (Some x) = (lies R machine p x, crossing.frees.frees heap (raw (lone R.mir)) p)

pub send : IsSend the_row
send =
    let all : AllSend (fields the_type) = search sendable in
    owning_send the_type all (λ d. owned d.at d.inside) (λ k. quiet (to the_type) (exits_of k (fields the_type)) ((struct_send (shape the_type) all).leaving k))
