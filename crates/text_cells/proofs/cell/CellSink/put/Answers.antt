use Rattle.text_cells.proofs.Filling.{put_within}
use Rattle.text_cells.proofs.cell.CellSink.put.Goals as goal

pub returns-then-not-push-clause-text : goal.returns-then-not-push-clause-text
returns-then-not-push-clause-text c =
    put_within _ _ _ c.args.bytes.now c.loop-byte.byte-index c.loop-byte-test.true c.loop-byte.invariant.1 c.if-not-push.ensures.text
