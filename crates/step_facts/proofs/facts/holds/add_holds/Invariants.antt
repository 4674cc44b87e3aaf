use Rattle.std.proofs.Common.{◌≡◌}
use Rattle.step_facts.specs.Holds.{hold_changes}
use Rattle.step_facts.specs.Told.{OnlyHeld, with_holds}
use Rattle.step_facts.proofs.facts.holds.add_holds.Given as goal

-- the holds of the subchannels so far
abbrev pub invariant-loop-subchannel : goal.invariant-loop-subchannel
invariant-loop-subchannel g l = record {
  told : l.facts ≡ with_holds l.fn.facts (hold_changes l.ending l.step.before.now.subchannels.items l.step.after.now.subchannels.items l.subchannel);
  only : OnlyHeld l.fn.facts l.facts;
  unrefused : g.S.Supply.refused l.supply ≡ g.S.Supply.refused l.fn.supply;
}
