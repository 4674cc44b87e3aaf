use Rattle.std.proofs.Common.{ap, sym}
use Rattle.script_text.proofs.Printing.{same_text}
use Rattle.seen_answers.specs.Seen as spec
use Rattle.seen_answers.proofs.seen_answer.put_report.Goals as goal

pub returns-in-Some : goal.returns-in-Some
returns-in-Some g c = same_text _ _ _ _ _ (ap spec.report_seen (sym c.in-Some.is)) c.put_path.ensures
