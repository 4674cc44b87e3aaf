use Rattle.std.proofs.Common.{subst}
use Rattle.streams.specs.Sinks.{Seen}
use Rattle.script_runner.specs.Serving.{IsRunOrRaced}
use Rattle.script_runner.proofs.Endings.{serves_race}
use Rattle.script_runner.proofs.race_script_with.Goals as goal

pub returns-in-Ok-clause-ends : goal.returns-in-Ok-clause-ends
returns-in-Ok-clause-ends g c =
    let short = g.M.Supply.refused c.race_script.new.supply in
    let held = g.S.Sink.seen c.args.sink.now in
    let now = g.S.Sink.seen c.race_script.new.sink in
    let ran : IsRunOrRaced short c.in-Ok.script held now c.race_script.result =
    subst (λ (x : Seen). IsRunOrRaced short c.in-Ok.script x now c.race_script.result) c.in-Ok.ensures.unwritten c.race_script.ensures.ends in
    serves_race short (g.R.Source.left c.args.reader.now) c.in-Ok.script held now c.race_script.result c.in-Ok.ensures.script ran
