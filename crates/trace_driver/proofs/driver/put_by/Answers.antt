use Rattle.std.proofs.Common.{◌++◌, codes}
use Rattle.script_text.proofs.Printing.{failed_so}
use Rattle.streams.proofs.Sinking.{takes_then}
use Rattle.trace_driver.proofs.driver.put_by.Goals as goal

pub returns-then-put_both : goal.returns-then-put_both
returns-then-put_both g c = takes_then _ _ _ (codes "   (by: " ++ c.args.line.now) (codes ")\n") _ c.if-put_both.ensures c.put.ensures

pub returns-else-put_both : goal.returns-else-put_both
returns-else-put_both g c = failed_so _ _ (codes "   (by: " ++ c.args.line.now) (codes ")\n") _ c.if-put_both.false c.if-put_both.ensures
