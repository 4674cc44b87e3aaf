use Rattle.std.proofs.Common.{ap, sym, ◌∙◌, List, ℕ}
use Rattle.word_names.specs.CodeWords as spec
use Rattle.word_parts.proofs.Growing.{chosen, left, text_as}
use Rattle.word_names.proofs.instruction.put_two.Goals as goal

pub returns-then-tests_state : goal.returns-then-tests_state
returns-then-tests_state g c =
    chosen _ _ (spec.progress_text (spec.two_words c.args.instruction c.args.control) c.args.control) (spec.two_words c.args.instruction c.args.control)
    (spec.tests_state c.args.instruction) _ (sym c.tests_state.ensures ∙ c.if-tests_state.true)
    (text_as _ _ _ _ _ (ap (λ (text : List ℕ). spec.progress_text text c.args.control) c.two_words-words.ensures) c.put_progress.ensures)

pub returns-else-tests_state : goal.returns-else-tests_state
returns-else-tests_state g c =
    left _ _ (spec.progress_text (spec.two_words c.args.instruction c.args.control) c.args.control) (spec.two_words c.args.instruction c.args.control)
    (spec.tests_state c.args.instruction) _ (sym c.tests_state.ensures ∙ c.if-tests_state.false)
    (text_as _ _ _ _ _ c.two_words-words.ensures c.put_text.ensures)
