use Rattle.script_runner.specs.Race.{HasTested}
use Rattle.script_runner.proofs.racers.tally_of.Given as goal

abbrev pub invariant-loop-turn : goal.invariant-loop-turn
invariant-loop-turn g l = HasTested l.race l.cpu l._turn l.fn.seat.value.log l.seat.value.log l.tally
