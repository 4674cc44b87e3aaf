use Rattle.std.proofs.Common.{ap, sym, ◌∙◌, List}
use Rattle.std.specs.Prelude.{codes}
use Rattle.word_parts.specs.Parts.{Named, names_text}
use Rattle.word_parts.specs.SchibNames as spec
use Rattle.word_parts.proofs.Growing.{text_as}
use Rattle.word_names.proofs.schib.put_pmcw.Goals as goal

pub returns-in-1 : goal.returns-in-1
returns-in-1 g c = text_as _ _ _ _ _ (ap (λ (ps : List Named). names_text (codes "; ") ps c.args.word) (c.control_parts.ensures ∙ sym (ap spec.pmcw_parts c.in-1.is))) c.put_names-in-1.ensures

pub returns-in-2 : goal.returns-in-2
returns-in-2 g c = text_as _ _ _ _ _ (ap (λ (ps : List Named). names_text (codes "; ") ps c.args.word) (c.mask_parts.ensures ∙ sym (ap spec.pmcw_parts c.in-2.is))) c.put_names-in-2.ensures

pub returns-in-3 : goal.returns-in-3
returns-in-3 g c = text_as _ _ _ _ _ (ap (λ (ps : List Named). names_text (codes "; ") ps c.args.word) (c.measurement_parts.ensures ∙ sym (ap spec.pmcw_parts c.in-3.is))) c.put_names-in-3.ensures

pub returns-in-4 : goal.returns-in-4
returns-in-4 g c = text_as _ _ _ _ _ (ap (λ (ps : List Named). names_text (codes "; ") ps c.args.word) (c.low_chpid_parts.ensures ∙ sym (ap spec.pmcw_parts c.in-4.is))) c.put_names-in-4.ensures

pub returns-in-5 : goal.returns-in-5
returns-in-5 g c = text_as _ _ _ _ _ (ap (λ (ps : List Named). names_text (codes "; ") ps c.args.word) (c.high_chpid_parts.ensures ∙ sym (ap spec.pmcw_parts c.in-5.is))) c.put_names-in-5.ensures

pub returns-in-6 : goal.returns-in-6
returns-in-6 g c = text_as _ _ _ _ _ (ap (λ (ps : List Named). names_text (codes "; ") ps c.args.word) (c.sense_parts.ensures ∙ sym (ap spec.pmcw_parts c.in-6.is))) c.put_names-in-6.ensures
