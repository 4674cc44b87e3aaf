use Rattle.std.proofs.Common.{◌≡◌, ◌≤◌, length, take}
use Rattle.machine_sight.specs.Shown.{ShowsEach}
use Rattle.machine_sight.proofs.looking.show_subchannels.Given as goal

-- the subchannels so far
abbrev pub invariant-loop-index : goal.invariant-loop-index
invariant-loop-index g l = record {
  shown : ShowsEach (g.L.Looks.state l.looks) (take l.index l.parties.subchannels.items) (take l.index l.list.items);
  there : l.index ≤ length l.list.items;
  short : length l.list.items ≤ length l.parties.subchannels.items;
  unrefused : g.S.Supply.refused l.supply ≡ g.S.Supply.refused l.fn.supply;
}
