use Rattle.std.proofs.Common.{refl, ◌∙◌, ◌==◌, ap, not, ℕ}
use Rattle.control_units.proofs.Serving.{none-other}
use Rattle.control_units.proofs.Keeping.{as-count, entry-other, seen-at}
use Rattle.control_units.proofs.sharing.has_other_begun.Goals as goal

pub returns-in-Some-clause-begun : goal.returns-in-Some-clause-begun
returns-in-Some-clause-begun c =
    let at = seen-at c.args.groups.now c.args.groups.now c.from.result c.args.member.group c.in-Some.group.now refl c.from.ensures c.in-Some.ensures.lookup.3.0 c.in-Some.ensures.lookup.1 in
    ap (λ (n : ℕ). not (c.in-Some.group.now.begun == n)) (c.from-in-Some.ensures ∙ as-count c.args.member.begun)
    ∙ entry-other c.args.members.now c.args.groups.now c.args.index c.args.member c.in-Some.group.now c.requires.here c.requires.groups at

pub returns-in-Some-clause-law : goal.returns-in-Some-clause-law
returns-in-Some-clause-law c = λ h. returns-in-Some-clause-begun c ∙ none-other c.args.member.group c.args.members.now c.args.index h

pub returns-in-None-clause-law : goal.returns-in-None-clause-law
returns-in-None-clause-law c = λ h. c.finds_other_begun.ensures.begun ∙ none-other c.args.member.group c.args.members.now c.args.index h
