use Rattle.std.proofs.Common.{◌≡◌, take}
use Rattle.step_records.proofs.parties.paths_of.Given as goal

abbrev pub invariant-loop-chpid : goal.invariant-loop-chpid
invariant-loop-chpid g l = record {
  same : l.list.items ≡ take l.chpid-index l.chpids;
  unrefused : g.S.Supply.refused l.supply ≡ g.S.Supply.refused l.fn.supply;
}
