use Rattle.std.proofs.Common.{length, ◌∙◌}
use Rattle.script_runner.proofs.Auditing.{counted}
use Rattle.script_runner.proofs.scripted_machine.is_settled.Goals as goal

pub returns-then-held-clause-entries : goal.returns-then-held-clause-entries
returns-then-held-clause-entries g c = λ same.
    let k = c.close-closed in
    let seats = c.args.seats in
    counted k.result seats.len c.args.core.value.seats (length c.args.core.value.history) _ k.ensures.entries k.ensures.logs k.ensures.none (seats.ok.0 ∙ same)

pub returns-else-held-clause-entries : goal.returns-else-held-clause-entries
returns-else-held-clause-entries g c = λ same.
    let k = c.close-closed in
    let seats = c.args.seats in
    counted k.result seats.len c.args.core.value.seats (length c.args.core.value.history) _ k.ensures.entries k.ensures.logs k.ensures.none (seats.ok.0 ∙ same)
