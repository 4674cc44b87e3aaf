use Rattle.std.proofs.Common.{◌++◌, codes, ap}
use Rattle.script_text.specs.Text.{byte_text}
use Rattle.record_text.specs.Numbers.{hexadecimal}
use Rattle.script_text.proofs.Printing.{same_text, failed_so}
use Rattle.streams.proofs.Sinking.{takes_then}
use Rattle.record_text.proofs.signal.put_attention.Goals as goal

pub returns-then-put_between : goal.returns-then-put_between
returns-then-put_between g c =
    takes_then _ _ _ (codes "Attn " ++ hexadecimal c.args.attention ++ codes " ") (byte_text c.args.status.0) _ c.if-put_between.ensures
    (same_text _ _ _ _ _ (ap byte_text c.bits.ensures) c.put_two_digits.ensures)

pub returns-else-put_between : goal.returns-else-put_between
returns-else-put_between g c =
    failed_so _ _ (codes "Attn " ++ hexadecimal c.args.attention ++ codes " ") (byte_text c.args.status.0) _ c.if-put_between.false c.if-put_between.ensures
