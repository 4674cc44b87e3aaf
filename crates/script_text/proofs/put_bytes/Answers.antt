use Rattle.script_text.specs.Text as spec
use Rattle.script_text.proofs.Printing.{failed_within}
use Rattle.script_text.proofs.put_bytes.Goals as goal

pub returns-then-not-put_byte : goal.returns-then-not-put_byte
returns-then-not-put_byte g c =
    failed_within _ _ _ spec.byte_text c.args.bytes.now c.loop-byte.byte-index c.loop-byte-test.true c.loop-byte.invariant c.if-not-put_byte.ensures
