use Rattle.std.proofs.Common.{◌≡◌, ◌≤◌, ◌+◌, ◌-◌, length, vec_len, vec_capacity}
use Rattle.interruptions.proofs.pending.no_requests.Given as goal

-- so many so far, and room for the rest
abbrev pub invariant-loop : goal.invariant-loop
invariant-loop g l = record {
  long : length l.requests.items ≡ l.counter;
  room : vec_len l.requests + (l.count - l.counter) ≤ vec_capacity l.requests;
  unrefused : g.S.Supply.refused l.supply ≡ g.S.Supply.refused l.fn.supply;
}
