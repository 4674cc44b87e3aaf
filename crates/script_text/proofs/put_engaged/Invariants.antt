use Rattle.script_text.specs.Text as spec
use Rattle.streams.specs.Sinks.{TakesText}
use Rattle.script_text.proofs.put_engaged.Given as goal

abbrev pub invariant-loop-path : goal.invariant-loop-path
invariant-loop-path g l = TakesText (g.S.Sink.seen l.fn.sink) (spec.engaged_text l.engaged l.path) (g.S.Sink.seen l.sink)
