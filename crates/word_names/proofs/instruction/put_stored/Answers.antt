use Rattle.std.proofs.Common.{sym, ◌∙◌}
use Rattle.word_names.specs.CodeWords as spec
use Rattle.word_parts.proofs.Growing.{chosen, left, text_as}
use Rattle.word_names.proofs.instruction.put_stored.Goals as goal

pub returns-then-is_assigned : goal.returns-then-is_assigned
returns-then-is_assigned g c =
    chosen _ _ spec.assigned_words (spec.operand_text c.args.address) (spec.is_assigned c.args.address) _
    (sym c.is_assigned.ensures ∙ c.if-is_assigned.true) (text_as _ _ _ _ _ c.assigned_words.ensures c.put_text.ensures)

pub returns-else-is_assigned : goal.returns-else-is_assigned
returns-else-is_assigned g c =
    left _ _ spec.assigned_words (spec.operand_text c.args.address) (spec.is_assigned c.args.address) _
    (sym c.is_assigned.ensures ∙ c.if-is_assigned.false) c.put_operand.ensures
