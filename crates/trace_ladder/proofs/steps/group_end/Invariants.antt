use Rattle.std.proofs.Common.{length, ◌≤◌}
use Rattle.trace_ladder.proofs.steps.group_end.Given as goal

abbrev pub invariant-loop : goal.invariant-loop
invariant-loop l = l.taken ≤ length l.records
