use Rattle.std.specs.Prelude.{slice_get}
use Rattle.channel_subsystem.proofs.Repeating.{same-step}
use Rattle.channel_subsystem.proofs.hosted.ChannelSubsystem.repeat.Goals as goal

pub returns-clause-same : goal.returns-clause-same
returns-clause-same g c = λ entry there.
    let contents = g.M.MainStorage.contents in
    let same = c.keeps_last.ensures.0 c.if-not-keeps_last.false in
    same-step g.P.PathChoice.picks c.args.self.now (contents c.args.storage.now) c.in-Some.entry (slice_get c.args.history.now c.args.index) c.perform_with.new.self
    (contents c.perform_with.new.storage) c.in-Ok.ensures.stepped same.1 entry there
