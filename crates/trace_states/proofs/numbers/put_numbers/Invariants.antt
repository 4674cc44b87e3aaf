use Rattle.std.proofs.Common.{◌≤◌}
use Rattle.trace_states.proofs.numbers.put_numbers.Given as goal

abbrev pub invariant-loop : goal.invariant-loop
invariant-loop g l = 1 ≤ l.divisor
