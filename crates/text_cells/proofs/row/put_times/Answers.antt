use Rattle.std.proofs.Common.{arith, true}
use Rattle.text_cells.proofs.Rowing.{repeated_goes_on}
use Rattle.text_cells.proofs.row.put_times.Goals as goal

pub loop-done-preserved : goal.loop-done-preserved
loop-done-preserved g c = (omega (arith, c.loop-done-test.true), repeated_goes_on _ _ _ c.args.text.now c.loop-done.done true c.loop-done.invariant.1 c.if-not-put.ensures)
