use Rattle.std.proofs.Common.{◌≡◌, take}
use Rattle.step_records.proofs.parties.units_of.Given as goal

abbrev pub invariant-loop-kind : goal.invariant-loop-kind
invariant-loop-kind g l = record {
  same : l.list.items ≡ take l.kind-index l.kinds;
  unrefused : g.S.Supply.refused l.supply ≡ g.S.Supply.refused l.fn.supply;
}
