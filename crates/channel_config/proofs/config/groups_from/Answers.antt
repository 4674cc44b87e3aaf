use Rattle.std.proofs.Common.{◌∙◌, ap, length, arith}
use Rattle.std.specs.Prelude.{None}
use Rattle.std.proofs.lemmas.List.{length_push}
use Rattle.channel_config.proofs.Grouping.{groups-next}
use Rattle.channel_config.proofs.config.groups_from.Goals as goal

pub loop-group-preserved : goal.loop-group-preserved
loop-group-preserved g c =
    let before = c.loop-group.invariant.groups in
    let count = c.loop-group.invariant.count in
    let own = c.len-own.ensures in
    let chosen = c.unwrap_or.ensures in
    let pushed = c.in_ok-push.ensures.pushed in
    let next = groups-next c.args.shared.now c.loop-group.group-index None c.loop-group-test.true in
    let unrefused = c.loop-group.invariant.unrefused in
    let granted = c.in_ok-push.ensures.unrefused in
    record {
      groups = cc;
      count = ap length pushed ∙ length_push c.loop-group.groups.items c.unwrap_or.result ∙ omega arith;
      unrefused = cc;
    }
