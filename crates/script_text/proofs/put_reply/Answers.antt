use Rattle.std.proofs.Common.{ap, sym}
use Rattle.script_text.specs.Text as spec
use Rattle.script_text.proofs.Printing.{same_text}
use Rattle.script_text.proofs.put_reply.Goals as goal

pub returns-in-Status : goal.returns-in-Status
returns-in-Status g c = same_text _ _ _ _ _ (ap spec.reply_text (sym c.in-Status.is)) c.put_status.ensures
