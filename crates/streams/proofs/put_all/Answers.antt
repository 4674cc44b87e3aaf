use Rattle.std.proofs.Common.{rules}
use Rattle.streams.proofs.Putting.{put_more}
use Rattle.streams.proofs.put_all.Goals as goal

pub loop-preserved : goal.loop-preserved
loop-preserved g c = record {
  bound = search rules;
  written = put_more _ _ _ c.args.bytes.now _ _ c.loop.invariant.written c.in-Some.ensures.some.1;
}
