use Rattle.std.proofs.Common.{◌≤◌}
use Rattle.trace_states.proofs.numbers.greatest_divisor.Given as goal

abbrev pub invariant-loop : goal.invariant-loop
invariant-loop l = 1 ≤ l.divisor
