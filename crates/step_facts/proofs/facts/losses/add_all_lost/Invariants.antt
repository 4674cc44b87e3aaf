use Rattle.std.proofs.Common.{◌≡◌}
use Rattle.step_facts.specs.Told.{OnlyMoved}
use Rattle.step_facts.proofs.facts.losses.add_all_lost.Given as goal

abbrev pub invariant-loop-subchannel : goal.invariant-loop-subchannel
invariant-loop-subchannel g l = record {
  only : OnlyMoved l.fn.facts l.facts;
  unrefused : g.S.Supply.refused l.supply ≡ g.S.Supply.refused l.fn.supply;
}
