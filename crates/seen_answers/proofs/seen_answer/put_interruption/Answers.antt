use Rattle.std.proofs.Common.{ap, sym}
use Rattle.script_text.proofs.Printing.{same_text}
use Rattle.seen_answers.specs.Seen as spec
use Rattle.seen_answers.proofs.seen_answer.put_interruption.Goals as goal

pub returns-in-None : goal.returns-in-None
returns-in-None g c = same_text _ _ _ _ _ (ap spec.interruption_seen (sym c.in-None.is)) c.put.ensures

pub returns-in-Some : goal.returns-in-Some
returns-in-Some g c = same_text _ _ _ _ _ (ap spec.interruption_seen (sym c.in-Some.is)) c.put_request.ensures
