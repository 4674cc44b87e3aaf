use Rattle.std.proofs.Common.{ℕ, List, ◌++◌, codes, ap}
use Rattle.std.specs.List.{flat_map}
use Rattle.script_text.specs.Text.{byte_text}
use Rattle.script_text.proofs.Printing.{same_text, failed_so}
use Rattle.streams.proofs.Sinking.{takes_then}
use Rattle.record_text.specs.SignalFields as spec
use Rattle.record_text.proofs.signal_fields.put_give.Goals as goal

pub returns-then-put_transfer : goal.returns-then-put_transfer
returns-then-put_transfer g c =
    takes_then _ _ _ (spec.transfer_fields (codes "give t=") c.args.number c.args.connection c.args.command c.args.sequence) (codes " bytes=" ++ flat_map byte_text c.args.bytes.now) _
    c.if-put_transfer.ensures (same_text _ _ _ _ _ (ap (λ (bytes : List ℕ). codes " bytes=" ++ flat_map byte_text bytes) c.as_slice.ensures.value) c.put_named_bytes.ensures)

pub returns-else-put_transfer : goal.returns-else-put_transfer
returns-else-put_transfer g c =
    failed_so _ _ (spec.transfer_fields (codes "give t=") c.args.number c.args.connection c.args.command c.args.sequence) (codes " bytes=" ++ flat_map byte_text c.args.bytes.now) _
    c.if-put_transfer.false c.if-put_transfer.ensures
