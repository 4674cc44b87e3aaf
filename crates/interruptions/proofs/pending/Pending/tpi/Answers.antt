use Rattle.std.proofs.Common.{◌∙◌, sym, arith}
use Rattle.interruptions.proofs.Answering.{no-answer, the-answer}
use Rattle.interruptions.proofs.pending.Pending.tpi.Goals as goal

pub returns-then-subclass-ge8-clause-answer : goal.returns-then-subclass-ge8-clause-answer
returns-then-subclass-ge8-clause-answer c = sym (no-answer c.args.mask c.args.self.now c.lowest-subclass.result c.lowest-subclass.ensures c.if-subclass-ge8.true)

pub returns-in_err-request-clause-answer : goal.returns-in_err-request-clause-answer
returns-in_err-request-clause-answer c =
    c.from_residual.ensures ∙ c.in_err-request.ensures
    ∙ sym (the-answer c.args.mask c.args.self.now c.lowest-subclass.result c.lowest-subclass.ensures (omega (arith, c.if-subclass-ge8.false)))

pub returns-clause-answer : goal.returns-clause-answer
returns-clause-answer c =
    c.in_ok-request.ensures ∙ sym (the-answer c.args.mask c.args.self.now c.lowest-subclass.result c.lowest-subclass.ensures (omega (arith, c.if-subclass-ge8.false)))
