use Rattle.script_text.proofs.Printing.{failed_so}
use Rattle.streams.proofs.Sinking.{takes_then}
use Rattle.seen_answers.specs.Seen as spec
use Rattle.seen_answers.proofs.seen_answer.put_request.Goals as goal

pub returns-then-put_subchannel : goal.returns-then-put_subchannel
returns-then-put_subchannel g c =
    takes_then _ _ _ (spec.request_subchannel c.args.code.now) (spec.request_parameter c.args.code.now) _ c.if-put_subchannel.ensures c.put_parameter.ensures

pub returns-else-put_subchannel : goal.returns-else-put_subchannel
returns-else-put_subchannel g c =
    failed_so _ _ (spec.request_subchannel c.args.code.now) (spec.request_parameter c.args.code.now) _ c.if-put_subchannel.false c.if-put_subchannel.ensures
