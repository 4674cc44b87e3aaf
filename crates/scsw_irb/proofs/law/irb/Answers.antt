-- The tables of blocks.
use Rattle.std.proofs.Common.{refl, ℕ, List, sym, subst}
use Rattle.zbits.proofs.LayoutLemmas.{shows_word_of}
use Rattle.zbits.proofs.OneImage.{one_image, words_of-image_of}
use Rattle.scsw_irb.specs.ScswTable.{AreIrb, irb_tables, word_0, extended_table}
use Rattle.scsw_irb.proofs.Fits.{irb-fit}
use Rattle.scsw_irb.proofs.law.irb.Goals as goal

pub returns-clause-allowed : goal.returns-clause-allowed
returns-clause-allowed c s range =
    let fit = irb-fit s range in
    let control = shows_word_of (word_0 s.scsw) refl fit.0 in
    let extended = shows_word_of (extended_table s.last_path_used) refl fit.1.1.1.0 in
    subst (λ (words : List ℕ). AreIrb words) (sym (words_of-image_of (irb_tables s) refl fit))
    ((control.1.1.0, control.1.1.1.1.1.1.1.1.1.0, control.1.1.1.1.1.1.1.1.1.1.1.0), extended.0, extended.1.1.0, refl)

pub returns-clause-same : goal.returns-clause-same
returns-clause-same c s t in_s in_t h = one_image (irb_tables s) (irb_tables t) refl refl refl (irb-fit s in_s) (irb-fit t in_t) h
