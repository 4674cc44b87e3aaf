use Rattle.std.proofs.Common.{◌≤◌, ◌-◌}
use Rattle.streams.specs.Sinks.{TakesText}
use Rattle.text_cells.specs.Characters as spec
use Rattle.text_cells.proofs.row.put_times.Given as goal

abbrev pub invariant-loop-done : goal.invariant-loop-done
invariant-loop-done g l = (l.done ≤ l.times) × TakesText (g.S.Sink.seen l.fn.sink) (spec.repeated l.done l.text) (g.S.Sink.seen l.sink)

abbrev pub decreases-loop-done : goal.decreases-loop-done
decreases-loop-done g l = l.times - l.done
