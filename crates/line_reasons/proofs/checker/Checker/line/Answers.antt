use Rattle.line_reasons.proofs.Judging.{none-told, some-told}
use Rattle.line_reasons.proofs.checker.Checker.line.Goals as goal

pub returns-in_default-clause-rule : goal.returns-in_default-clause-rule
returns-in_default-clause-rule g c =
    none-told c.args.self.now c.args.line.now c.in_ok-spoken.spoken _ c.in_ok-spoken.ensures.says c.in_ok-broken.ensures.broken c.in_default.is

pub returns-clause-rule : goal.returns-clause-rule
returns-clause-rule g c =
    some-told c.args.self.now c.args.line.now c.in_ok-spoken.spoken _ c.in-Some.broken _ c.in_ok-spoken.ensures.says c.in_ok-broken.ensures.broken c.in-Some.is
    c.remark-remark.ensures.rule
