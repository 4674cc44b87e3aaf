use Rattle.std.proofs.Common.{ap, sym}
use Rattle.script_text.specs.Text as spec
use Rattle.script_text.proofs.Printing.{same_text}
use Rattle.script_text.proofs.put_interruption.Goals as goal

pub returns-in-Some : goal.returns-in-Some
returns-in-Some g c = same_text _ _ _ _ _ (ap spec.interruption_text (sym c.in-Some.is)) c.put_request.ensures
