use Rattle.std.proofs.Common.{◌≡◌}
use Rattle.step_facts.proofs.facts.units.add_units.Given as goal

abbrev pub invariant-loop-unit : goal.invariant-loop-unit
invariant-loop-unit g l = record {
  kept : l.facts ≡ l.fn.facts;
  unrefused : g.S.Supply.refused l.supply ≡ g.S.Supply.refused l.fn.supply;
}
