use Rattle.script_text.proofs.Printing.{failed_so}
use Rattle.streams.proofs.Sinking.{takes_then}
use Rattle.trace_driver.specs.Driver.{visible_text}
use Rattle.trace_driver.specs.Driver as spec
use Rattle.trace_driver.proofs.driver.put_visible_record.Goals as goal

pub returns-then-put_number : goal.returns-then-put_number
unfolding visible_text
returns-then-put_number g c =
    takes_then _ _ _ (spec.number_text c.args.told.now.line) (spec.fact_text c.args.trace.now c.args.drawing c.args.told.now) _ c.if-put_number.ensures c.put_record_fact.ensures

pub returns-else-put_number : goal.returns-else-put_number
unfolding visible_text
returns-else-put_number g c =
    failed_so _ _ (spec.number_text c.args.told.now.line) (spec.fact_text c.args.trace.now c.args.drawing c.args.told.now) _ c.if-put_number.false c.if-put_number.ensures
