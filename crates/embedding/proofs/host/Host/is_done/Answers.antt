use Rattle.embedding.proofs.Going.{entered}
use Rattle.embedding.specs.Hosts.{moment}
use Rattle.embedding.proofs.host.Host.is_done.Goals as goal

pub returns-clause-done : goal.returns-clause-done
returns-clause-done g c =
    let held = g.M.MainStorage.contents in
    rw c.is_ok.ensures.value
    (entered (moment c.args.self.now.subsystem (held c.args.storage.now)) (moment c.enter.new.self.subsystem (held c.enter.new.storage)) c.args.event.now
    c.enter.result c.enter.new.self.subsystem.kept c.enter.ensures.enters)
