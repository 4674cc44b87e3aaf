use Rattle.std.proofs.Common.{codes}
use Rattle.script_text.proofs.Printing.{failed_so}
use Rattle.streams.proofs.Sinking.{takes_then}
use Rattle.record_text.specs.SignalFields as spec
use Rattle.record_text.proofs.signal_fields.put_data.Goals as goal

pub returns-then-put_transfer : goal.returns-then-put_transfer
returns-then-put_transfer g c =
    takes_then _ _ _ (spec.transfer_fields (codes "data t=") c.args.number c.args.connection c.args.command c.args.sequence) (spec.load_fields c.args.load.now) _ c.if-put_transfer.ensures c.put_load.ensures

pub returns-else-put_transfer : goal.returns-else-put_transfer
returns-else-put_transfer g c =
    failed_so _ _ (spec.transfer_fields (codes "data t=") c.args.number c.args.connection c.args.command c.args.sequence) (spec.load_fields c.args.load.now) _ c.if-put_transfer.false c.if-put_transfer.ensures
