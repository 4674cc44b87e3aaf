use Rattle.std.proofs.Common.{subst}
use Rattle.channel_subsystem.specs.GivenSteps.{HasRoomSomewhere}
use Rattle.channel_subsystem.specs.Hosting.{Hosted}
use Rattle.channel_subsystem.proofs.GivenStorage.{at-first}
use Rattle.channel_subsystem.proofs.hosted.ChannelSubsystem.has_room_somewhere.Goals as goal

pub returns : goal.returns
returns g c = λ cpu.
    let host = c.self.invariant.1.1.1.1 in
    let hosts = at-first c.self.inside.blocks host in
    subst (λ (s : Hosted). HasRoomSomewhere c.args.instruction s.blocks cpu) c.self.view_is
    (record { room = c.is_somewhere.ensures c.self.inside.blocks cpu host.0; size = hosts.size; sound = hosts.sound })
