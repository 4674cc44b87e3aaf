use Rattle.script_runner.proofs.Failing.{no_run_fails}
use Rattle.script_runner.proofs.running.run_script.Goals as goal

pub returns-clause-audited : goal.returns-clause-audited
returns-clause-audited g c =
    let parts = c.into_parts-config.result in
    no_run_fails (g.M.Supply.refused c.run_named.new.supply) parts.0 parts.1 (g.S.Sink.seen c.args.sink.now) (g.S.Sink.seen c.run_named.new.sink) c.run_named.result c.run_named.ensures.ends
