use Rattle.std.proofs.Common.{codes}
use Rattle.script_text.proofs.Printing.{failed_so}
use Rattle.streams.proofs.Sinking.{takes_then}
use Rattle.trace_driver.specs.Driver as spec
use Rattle.trace_driver.proofs.driver.put_driver.Goals as goal

pub returns-then-put : goal.returns-then-put
returns-then-put g c =
    takes_then _ _ _ (codes "what a program on the CPUs can see\n\n") (spec.rows_text c.args.trace.now c.args.style.drawing spec.none c.args.trace.now.records.items) _ c.if-put.ensures c.put_all_rows.ensures

pub returns-else-put : goal.returns-else-put
returns-else-put g c =
    failed_so _ _ (codes "what a program on the CPUs can see\n\n") (spec.rows_text c.args.trace.now c.args.style.drawing spec.none c.args.trace.now.records.items) _ c.if-put.false c.if-put.ensures
