use Rattle.std.proofs.Common.{◌≡◌, ◌≤◌, ◌+◌, ◌*◌, ◌++◌, vec_len, vec_capacity}
use Rattle.script_runner.specs.Race.{total_after, total_of, seats_of}
use Rattle.script_runner.proofs.racers.gather.Given as goal

abbrev pub invariant-loop-racer : goal.invariant-loop-racer
invariant-loop-racer g l = record {
  seats : l.seats.items ++ seats_of l.racers.items ≡ l.initial.seats.items ++ seats_of l.initial.racers.items;
  total : total_after l.total l.racers.items ≡ total_of l.initial.racers.items;
  codes : l.total.zero + l.total.one + l.total.two + l.total.three ≤ l.total.entries;
  entries : l.total.entries + 4294967296 * vec_len l.racers ≤ 68719476736;
  room : vec_len l.seats + vec_len l.racers ≤ vec_capacity l.seats;
}

abbrev pub decreases-loop-racer : goal.decreases-loop-racer
decreases-loop-racer g l = vec_len l.racers
