use Rattle.std.proofs.Common.{Bool, subst}
use Rattle.script_runner.specs.Performing.{PerformsTo}
use Rattle.script_runner.specs.Serving.{EndsBy}
use Rattle.script_runner.proofs.Endings.{ends_race, stops_before, not_true, not_false}
use Rattle.script_runner.proofs.running.perform_race.Goals as goal

pub returns-then-not-done : goal.returns-then-not-done
returns-then-not-done g c =
    let done = c.perform-done in
    let short = g.M.Supply.refused done.new.supply in
    let held = g.S.Sink.seen c.args.sink.now in
    let between = g.S.Sink.seen done.new.sink in
    let now = g.S.Sink.seen c.end.new.sink in
    let is = not_true done.result.whole c.if-not-done.true in
    stops_before short c.args.installation done.new.installation c.args.asked.now.lines.now c.args.asked.now.last held between now done.result.refused c.audited.result c.end.result
    (subst (λ (whole : Bool). PerformsTo short whole c.args.installation c.args.asked.now.lines.now held between done.result.refused done.new.installation) is done.ensures.performs)
    c.audited.ensures
    (subst (λ (whole : Bool). EndsBy c.audited.result whole done.result.refused between now c.end.result) is c.end.ensures)

pub returns : goal.returns
returns g c =
    let done = c.perform-done in
    let short = g.M.Supply.refused done.new.supply in
    let held = g.S.Sink.seen c.args.sink.now in
    let between = g.S.Sink.seen done.new.sink in
    let race = c.race-refused in
    let is = not_false done.result.whole c.if-not-done.false in
    ends_race short c.args.installation done.new.installation c.args.asked.now.lines.now c.args.asked.now.last held between (g.S.Sink.seen c.put_event_line-whole.new.sink) done.result.refused race.result.1 c.put_event_line-whole.result race.result.0 c.ending_of.result
    (subst (λ (whole : Bool). PerformsTo short whole c.args.installation c.args.asked.now.lines.now held between done.result.refused done.new.installation) is done.ensures.performs)
    race.ensures c.put_event_line-whole.ensures c.ending_of.ensures
