use Rattle.std.proofs.Common.{◌≡◌, map, take}
use Rattle.machine_sight.specs.Shown.{is_up}
use Rattle.machine_sight.proofs.looking.show_paths.Given as goal

-- the channel paths so far
abbrev pub invariant-loop-chpid : goal.invariant-loop-chpid
invariant-loop-chpid g l = record {
  shown : l.list.items ≡ map (is_up (g.L.Looks.state l.looks)) (take l.chpid-index l.chpids);
  unrefused : g.S.Supply.refused l.supply ≡ g.S.Supply.refused l.fn.supply;
}
