use Rattle.std.proofs.Common.{ap}
use Rattle.script_text.proofs.Printing.{same_text}
use Rattle.trace_driver.specs.Driver.{rows_text, none}
use Rattle.trace_driver.proofs.driver.put_all_rows.Goals as goal

pub returns : goal.returns
returns g c = same_text _ _ _ _ _ (ap (rows_text c.args.trace.now c.args.drawing none) c.as_slice.ensures.value) c.put_rows.ensures
