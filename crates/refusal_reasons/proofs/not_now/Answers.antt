use Rattle.std.proofs.Common.{rules}
use Rattle.script_rows.specs.Slots.{action_in}
use Rattle.refusal_reasons.proofs.not_now.Goals as goal

pub returns-in-Event-Act-clause-named : goal.returns-in-Event-Act-clause-named
returns-in-Event-Act-clause-named g c storage bytes =
    c.unit_refusal.ensures.named storage (action_in c.args.action.now bytes) (search rules) (search rules) (search rules)

pub returns-in-Dev-clause-named : goal.returns-in-Dev-clause-named
returns-in-Dev-clause-named g c storage bytes =
    c.unit_refusal-in-Dev.ensures.named storage (action_in c.args.action.now bytes) (search rules) (search rules) (search rules)
