use Rattle.std.proofs.Common.{rules}
use Rattle.std.proofs.lemmas.Option.{slice_get_read}
use Rattle.machine_sight.proofs.Following.{balanced_more}
use Rattle.machine_sight.proofs.waiting.Waiting.follow.Goals as goal

pub loop-record-preserved : goal.loop-record-preserved
loop-record-preserved g c = record {
  balanced = balanced_more _ _ _ c.args.records.now c.loop-record.record-index c.record-item.result (search (slice_get_read, rules)) c.loop-record.invariant.balanced
      (c.in_ok-follow_one.ensures.followed (search rules));
  unrefused = search rules;
}
