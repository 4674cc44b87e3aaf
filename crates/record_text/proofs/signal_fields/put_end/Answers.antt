use Rattle.script_text.proofs.Printing.{failed_so}
use Rattle.streams.proofs.Sinking.{takes_then}
use Rattle.record_text.specs.SignalFields as spec
use Rattle.record_text.proofs.signal_fields.put_end.Goals as goal

pub returns-then-put_status : goal.returns-then-put_status
returns-then-put_status g c =
    takes_then _ _ _ (spec.status_fields c.args.number c.args.command c.args.status.0) (spec.more_field c.args.more) _ c.if-put_status.ensures c.put_more.ensures

pub returns-else-put_status : goal.returns-else-put_status
returns-else-put_status g c =
    failed_so _ _ (spec.status_fields c.args.number c.args.command c.args.status.0) (spec.more_field c.args.more) _ c.if-put_status.false c.if-put_status.ensures
