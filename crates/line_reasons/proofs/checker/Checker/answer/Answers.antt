use Rattle.std.proofs.Common.{rules}
use Rattle.line_reasons.proofs.Judging.{left-out}
use Rattle.line_reasons.proofs.checker.Checker.answer.Goals as goal

pub returns-else-is_none-clause-next : goal.returns-else-is_none-clause-next
returns-else-is_none-clause-next g c =
    left-out c.args.self.now c.take.new.self c.args.number c.args.spoken.now c.in_ok-broken.broken c.in_default.ensures.taken c.in_default.ensures.stays
    c.in_ok-broken.ensures.broken (search rules) c.in_ok-broken.ensures.next
