use Rattle.std.proofs.Common.{codes, ap}
use Rattle.script_text.specs.Text.{byte_text}
use Rattle.script_text.proofs.Printing.{same_text, failed_so}
use Rattle.streams.proofs.Sinking.{takes_then}
use Rattle.record_text.proofs.signal.put_status.Goals as goal

pub returns-then-put : goal.returns-then-put
returns-then-put g c =
    takes_then _ _ _ (codes "End ") (byte_text c.args.status.0) _ c.if-put.ensures (same_text _ _ _ _ _ (ap byte_text c.bits.ensures) c.put_two_digits.ensures)

pub returns-else-put : goal.returns-else-put
returns-else-put g c =
    failed_so _ _ (codes "End ") (byte_text c.args.status.0) _ c.if-put.false c.if-put.ensures
