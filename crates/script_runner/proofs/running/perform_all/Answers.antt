use Rattle.script_runner.proofs.Endings.{ends_all}
use Rattle.script_runner.proofs.running.perform_all.Goals as goal

pub returns : goal.returns
returns g c =
    let done = c.perform-done in
    ends_all (g.M.Supply.refused done.new.supply) c.args.installation done.new.installation c.args.lines.now (g.S.Sink.seen c.args.sink.now) (g.S.Sink.seen done.new.sink) (g.S.Sink.seen c.end.new.sink) done.result.whole done.result.refused c.audited.result c.end.result done.ensures.performs c.audited.ensures c.end.ensures
