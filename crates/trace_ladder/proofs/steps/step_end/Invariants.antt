use Rattle.std.proofs.Common.{length, ◌-◌, ◌≤◌}
use Rattle.trace_ladder.proofs.steps.step_end.Given as goal

abbrev pub invariant-loop-end : goal.invariant-loop-end
invariant-loop-end l = l.end ≤ length l.records

abbrev pub decreases-loop-end : goal.decreases-loop-end
decreases-loop-end l = length l.records - l.end
