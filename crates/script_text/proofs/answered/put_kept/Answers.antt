use Rattle.std.proofs.Common.{ap, sym}
use Rattle.chan_events.specs.Replies.{KeptReply, reply_in}
use Rattle.script_text.specs.Text as spec
use Rattle.script_text.proofs.Printing.{same_text}
use Rattle.script_text.proofs.answered.put_kept.Goals as goal

pub returns-in-Status : goal.returns-in-Status
returns-in-Status g c = same_text _ _ _ _ _ (ap (λ (r : KeptReply). spec.reply_text (reply_in r c.args.bytes.now)) (sym c.in-Status.is)) c.put_status.ensures
