use Rattle.std.proofs.Common.{◌≡◌}
use Rattle.step_facts.proofs.facts.statuses.add_cleared.Given as goal

abbrev pub invariant-loop-subchannel : goal.invariant-loop-subchannel
invariant-loop-subchannel g l = record {
  kept : l.facts ≡ l.fn.facts;
  unrefused : g.S.Supply.refused l.supply ≡ g.S.Supply.refused l.fn.supply;
}
