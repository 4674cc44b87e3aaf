use Rattle.std.proofs.Common.{List, ℕ, ◌++◌, codes, ap}
use Rattle.script_text.proofs.Printing.{same_text}
use Rattle.trace_driver.proofs.driver.put_report.Goals as goal

pub returns : goal.returns
returns g c = same_text _ _ _ _ _ (ap (λ (bolt : List ℕ). bolt ++ codes " a channel report waits: machine-check interruption condition") c.bolt.ensures) c.put_both.ensures
