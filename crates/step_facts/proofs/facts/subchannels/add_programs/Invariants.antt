use Rattle.std.proofs.Common.{◌≡◌}
use Rattle.step_facts.proofs.facts.subchannels.add_programs.Given as goal

abbrev pub invariant-loop-start : goal.invariant-loop-start
invariant-loop-start g l = record {
  kept : l.facts ≡ l.fn.facts;
  unrefused : g.S.Supply.refused l.supply ≡ g.S.Supply.refused l.fn.supply;
}

abbrev pub invariant-loop-start-2 : goal.invariant-loop-start-2
invariant-loop-start-2 g l = record {
  kept : l.facts ≡ l.fn.facts;
  unrefused : g.S.Supply.refused l.supply ≡ g.S.Supply.refused l.fn.supply;
}
