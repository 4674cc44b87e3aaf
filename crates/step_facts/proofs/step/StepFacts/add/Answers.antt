use Rattle.std.proofs.Common.{◌∙◌, ap, rules, List, [], ◌∷◌, ◌++◌}
use Rattle.step_facts.proofs.Telling.{told_push}
use Rattle.step_facts.specs.Told.{Told, line_record, told_of, told_with}
use Rattle.step_records.specs.declared.record.Record.{Record}
use Rattle.step_facts.proofs.step.StepFacts.add.Goals as goal

pub returns-clause-added : goal.returns-clause-added
returns-clause-added g c =
    let line = c.self.inside.line in
    let first = c.self.inside.first in
    let fact = c.args.fact in
    ap (told_of line first) (c.push_reserved.ensures.items
    ∙ ap (λ (t : List Record). t ++ line_record line fact ∷ []) c.ensure_room.ensures.items)
    ∙ (told_push line first c.self.inside.records.items fact (search rules) ∙ ap (λ (t : Told). told_with t fact) c.self.view_is)
