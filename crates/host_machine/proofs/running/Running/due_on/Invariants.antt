use Rattle.std.proofs.Common.{◌≡◌, drop}
use Rattle.host_machine.specs.Works.{due_on}
use Rattle.host_machine.proofs.running.Running.due_on.Given as goal

abbrev pub invariant-loop-chpid : goal.invariant-loop-chpid
invariant-loop-chpid l = due_on l.self.subsystem.machine l.subchannel (drop l.chpid-index l.chpids) ≡ due_on l.self.subsystem.machine l.subchannel l.chpids
