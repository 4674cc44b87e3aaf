use Rattle.std.proofs.Common.{rules}
use Rattle.step_facts.proofs.Holding.{held-more, hold-more}
use Rattle.step_facts.proofs.facts.holds.add_holds.Goals as goal

pub loop-subchannel-preserved : goal.loop-subchannel-preserved
loop-subchannel-preserved g c =
    let i = c.loop-subchannel.invariant in
    record {
      told = hold-more c.args.facts.now c.loop-subchannel.facts c.add_hold_at.new.facts c.args.ending _ _ c.loop-subchannel.subchannel i.told c.in_ok-add_hold_at.ensures.told;
      only = held-more c.args.facts.now c.loop-subchannel.facts c.add_hold_at.new.facts i.only c.add_hold_at.ensures.only;
      unrefused = search rules;
    }
