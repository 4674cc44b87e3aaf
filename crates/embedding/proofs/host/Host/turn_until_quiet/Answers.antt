use Rattle.embedding.proofs.Going.{quiet_within, refused_within}
use Rattle.embedding.specs.Hosts.{moment}
use Rattle.embedding.proofs.host.Host.turn_until_quiet.Goals as goal

pub returns-in-Quiet-clause-turned : goal.returns-in-Quiet-clause-turned
returns-in-Quiet-clause-turned g c =
    let held = g.M.MainStorage.contents in
    quiet_within 0x10000 c.loop.counter c.args.most (moment c.args.self.now.subsystem (held c.args.storage.now)) (moment c.loop.self.subsystem (held c.loop.storage)) (moment c.turn.new.self.subsystem (held c.turn.new.storage)) c.loop-test.true c.loop.invariant.goes c.in-Quiet.ensures.turned

pub returns-in-Refused-clause-turned : goal.returns-in-Refused-clause-turned
returns-in-Refused-clause-turned g c =
    let held = g.M.MainStorage.contents in
    refused_within 0x10000 c.loop.counter c.args.most c.in-Refused.fault (moment c.args.self.now.subsystem (held c.args.storage.now)) (moment c.loop.self.subsystem (held c.loop.storage)) (moment c.turn.new.self.subsystem (held c.turn.new.storage)) c.loop-test.true c.loop.invariant.goes c.in-Refused.ensures.turned
