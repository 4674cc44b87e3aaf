use Rattle.std.proofs.Common.{ap}
use Rattle.script_text.proofs.Printing.{same_text}
use Rattle.trace_driver.specs.Driver as spec
use Rattle.trace_driver.proofs.driver.put_last_gap.Goals as goal

pub returns : goal.returns
returns g c = same_text _ _ _ _ _ (ap (spec.gap_text c.args.drawing) c.count.ensures) c.put_gap.ensures
