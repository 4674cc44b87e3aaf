use Rattle.std.proofs.Common.{ap, sym, ◌∙◌, List}
use Rattle.std.specs.Prelude.{codes}
use Rattle.word_parts.specs.Parts.{Named, names_text}
use Rattle.word_parts.specs.SchibNames as spec
use Rattle.word_parts.proofs.Growing.{text_as}
use Rattle.word_names.proofs.schib.put_extended.Goals as goal

pub returns-in-0 : goal.returns-in-0
returns-in-0 g c = text_as _ _ _ _ _ (ap (λ (ps : List Named). names_text (codes "; ") ps c.args.word) (c.extended_parts.ensures ∙ sym (ap spec.extended_by c.in-0.is))) c.put_names.ensures
