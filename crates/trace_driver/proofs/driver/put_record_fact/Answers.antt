use Rattle.std.proofs.Common.{List, ℕ, ap}
use Rattle.script_text.proofs.Printing.{same_text}
use Rattle.trace_driver.specs.Driver as spec
use Rattle.trace_driver.proofs.driver.put_record_fact.Goals as goal

pub returns : goal.returns
returns g c =
    same_text _ _ _ _ _ (ap (λ (line : List ℕ). spec.told_text c.args.trace.now.parties c.args.drawing line c.args.told.now.fact) c.line-line.ensures)
    c.put_fact.ensures
