use Rattle.std.proofs.Common.{◌≡◌}
use Rattle.step_facts.proofs.facts.subchannels.add_masks.Given as goal

abbrev pub invariant-loop-mask : goal.invariant-loop-mask
invariant-loop-mask g l = record {
  kept : l.facts ≡ l.fn.facts;
  unrefused : g.S.Supply.refused l.supply ≡ g.S.Supply.refused l.fn.supply;
}
