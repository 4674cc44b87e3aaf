use Rattle.std.proofs.Common.{◌≡◌, ◌≤◌, ◌+◌, ◌-◌, vec_len, vec_capacity}
use Rattle.std.specs.List.{range_with_len}
use Rattle.interruptions.proofs.links.numbers_below.Given as goal

-- the numbers so far, and room for the rest
abbrev pub invariant-loop-number : goal.invariant-loop-number
invariant-loop-number g l = record {
  items : l.numbers.items ≡ range_with_len 0 l.number;
  room : vec_len l.numbers + (l.count - l.number) ≤ vec_capacity l.numbers;
  unrefused : g.S.Supply.refused l.supply ≡ g.S.Supply.refused l.fn.supply;
}
