use Rattle.std.proofs.Common.{sym, ◌∙◌}
use Rattle.word_names.specs.CodeWords as spec
use Rattle.word_parts.proofs.Growing.{chosen, left}
use Rattle.word_names.proofs.instruction.put_one.Goals as goal

pub returns-then-tests_state : goal.returns-then-tests_state
returns-then-tests_state g c =
    chosen _ _ (spec.pending_text c.args.control) (spec.other_one_text c.args.instruction) (spec.tests_state c.args.instruction) _
    (sym c.tests_state.ensures ∙ c.if-tests_state.true) c.put_pending.ensures

pub returns-else-tests_state : goal.returns-else-tests_state
returns-else-tests_state g c =
    left _ _ (spec.pending_text c.args.control) (spec.other_one_text c.args.instruction) (spec.tests_state c.args.instruction) _
    (sym c.tests_state.ensures ∙ c.if-tests_state.false) c.put_other_one.ensures
