use Rattle.std.proofs.Common.{◌≡◌, ◌≤◌, length, take}
use Rattle.machine_sight.proofs.looking.show_units.Given as goal

-- the units so far
abbrev pub invariant-loop-number : goal.invariant-loop-number
invariant-loop-number g l = record {
  shown : take l.number l.list.items ≡ take l.number (g.L.Looks.state l.looks).units;
  there : l.number ≤ length l.list.items;
  short : length l.list.items ≤ l.count;
  unrefused : g.S.Supply.refused l.supply ≡ g.S.Supply.refused l.fn.supply;
}
