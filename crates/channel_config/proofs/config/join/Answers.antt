use Rattle.channel_config.proofs.Grouping.{grouped-next}
use Rattle.channel_config.proofs.config.join.Goals as goal

pub loop-unit-preserved : goal.loop-unit-preserved
loop-unit-preserved c =
    let before = c.loop-unit.invariant in
    let joined = c.join_one.ensures in
    let next = grouped-next c.args.shared.now.items c.args.group c.args.units.now c.loop-unit.unit-index 0 c.loop-unit-test.true in
    cc
