use Rattle.std.proofs.Common.{codes}
use Rattle.record_text.specs.Names.{subchannel_name}
use Rattle.script_text.proofs.Printing.{failed_so}
use Rattle.streams.proofs.Sinking.{takes_then}
use Rattle.seen_answers.proofs.seen_answer.put_subchannel.Goals as goal

pub returns-then-put : goal.returns-then-put
returns-then-put g c =
    let code = c.args.code.now in
    takes_then _ _ _ (codes "cc 1  subchannel ") (subchannel_name (record { set = code.set; number = code.subchannel })) _ c.if-put.ensures c.put_subchannel_id.ensures

pub returns-else-put : goal.returns-else-put
returns-else-put g c =
    let code = c.args.code.now in
    failed_so _ _ (codes "cc 1  subchannel ") (subchannel_name (record { set = code.set; number = code.subchannel })) _ c.if-put.false c.if-put.ensures
