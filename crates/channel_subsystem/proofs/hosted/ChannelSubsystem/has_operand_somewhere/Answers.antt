use Rattle.std.proofs.Common.{subst}
use Rattle.channel_subsystem.specs.GivenSteps.{IsSomewhere}
use Rattle.channel_subsystem.specs.Hosting.{Hosted}
use Rattle.channel_subsystem.proofs.GivenStorage.{given-storage}
use Rattle.channel_subsystem.proofs.hosted.ChannelSubsystem.has_operand_somewhere.Goals as goal

pub returns : goal.returns
returns g c = λ cpu.
    let host = c.self.invariant.1.1.1.1 in
    let there = c.is_somewhere.ensures c.self.inside.blocks cpu host.0 in
    let hosts = given-storage c.args.instruction.now c.self.inside.blocks cpu host there in
    subst (λ (s : Hosted). IsSomewhere c.args.instruction.now s.blocks cpu) c.self.view_is (record { operand = there; size = hosts.size; sound = hosts.sound })
