use Rattle.std.proofs.Common.{◌≡◌}
use Rattle.step_facts.proofs.facts.channel_paths.add_paths.Given as goal

abbrev pub invariant-loop-index : goal.invariant-loop-index
invariant-loop-index g l = record {
  kept : l.facts ≡ l.fn.facts;
  unrefused : g.S.Supply.refused l.supply ≡ g.S.Supply.refused l.fn.supply;
}
