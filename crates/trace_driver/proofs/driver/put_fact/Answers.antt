use Rattle.std.proofs.Common.{ap, sym}
use Rattle.script_text.proofs.Printing.{same_text}
use Rattle.trace_driver.specs.Driver as spec
use Rattle.trace_driver.proofs.driver.put_fact.Goals as goal

pub returns-in-Request : goal.returns-in-Request
returns-in-Request g c =
    same_text _ _ _ _ _ (ap (spec.told_text c.args.parties.now c.args.drawing c.args.line.now) (sym c.in-Request.is)) c.put_requested.ensures
