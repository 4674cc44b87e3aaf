use Rattle.std.proofs.Common.{subst}
use Rattle.streams.specs.Sinks.{Seen}
use Rattle.script_runner.specs.Serving.{IsRun}
use Rattle.script_runner.proofs.Endings.{serves_script}
use Rattle.script_runner.proofs.serve_script_with.Goals as goal

pub returns-in-Ok-clause-ends : goal.returns-in-Ok-clause-ends
returns-in-Ok-clause-ends g c =
    let short = g.M.Supply.refused c.run_script.new.supply in
    let held = g.S.Sink.seen c.args.sink.now in
    let now = g.S.Sink.seen c.run_script.new.sink in
    let ran : IsRun short c.in-Ok.script held now c.run_script.result =
    subst (λ (x : Seen). IsRun short c.in-Ok.script x now c.run_script.result) c.in-Ok.ensures.unwritten c.run_script.ensures.ends in
    serves_script short (g.R.Source.left c.args.reader.now) c.in-Ok.script held now c.run_script.result c.in-Ok.ensures.script ran
