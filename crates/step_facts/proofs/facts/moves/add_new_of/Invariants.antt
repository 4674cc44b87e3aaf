use Rattle.std.proofs.Common.{◌≡◌}
use Rattle.step_facts.specs.Told.{OnlyMoved}
use Rattle.step_facts.proofs.facts.moves.add_new_of.Given as goal

abbrev pub invariant-loop-index : goal.invariant-loop-index
invariant-loop-index g l = record {
  only : OnlyMoved l.fn.facts l.facts;
  unrefused : g.S.Supply.refused l.supply ≡ g.S.Supply.refused l.fn.supply;
}
