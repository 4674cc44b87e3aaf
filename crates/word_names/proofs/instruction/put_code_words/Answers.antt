use Rattle.std.proofs.Common.{ap, sym, ◌∙◌, ℕ}
use Rattle.chan_model.specs.declared.answer.ConditionCode.{ConditionCode}
use Rattle.word_names.specs.CodeWords as spec
use Rattle.word_parts.proofs.Growing.{text_as}
use Rattle.word_names.proofs.instruction.put_code_words.Goals as goal

pub returns-in-One : goal.returns-in-One
returns-in-One g c =
    text_as _ _ _ _ _
    (ap (λ (control : ℕ). spec.one_text c.args.instruction control) c.control_of.ensures
    ∙ ap (λ (code : ConditionCode). spec.code_words c.args.instruction code c.args.found) (sym c.in-One.is))
    c.put_one.ensures
