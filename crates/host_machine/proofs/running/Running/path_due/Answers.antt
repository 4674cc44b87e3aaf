use Rattle.std.proofs.Common.{◌≡◌, subst}
use Rattle.channel_subsystem.specs.Hosting.{Hosted}
use Rattle.signal_step.specs.PathTurns.{path_turn_of}
use Rattle.host_machine.specs.Works.{event_due}
use Rattle.host_machine.proofs.Turning.{stands}
use Rattle.host_machine.proofs.running.Running.path_due.Goals as goal

pub returns : goal.returns
returns c =
    subst (λ (s : Hosted). event_due c.args.subchannel c.due_of_turn.result ≡ path_turn_of s.machine c.args.subchannel c.args.chpid) c.subsystem.ensures
    (stands c.subsystem.result.now.machine c.args.subchannel c.args.chpid c.path_turn.result c.due_of_turn.result c.path_turn.ensures c.due_of_turn.ensures)
