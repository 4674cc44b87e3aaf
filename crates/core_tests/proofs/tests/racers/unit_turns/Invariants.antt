use Rattle.std.proofs.Common.{◌≡◌, None}
use Rattle.core_tests.proofs.tests.racers.unit_turns.Given as goal

abbrev pub invariant-loop-index : goal.invariant-loop-index
invariant-loop-index g l = l.seat.value.owed ≡ None
