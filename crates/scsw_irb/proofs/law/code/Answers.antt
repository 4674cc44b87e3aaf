-- The tables of interruption codes.
use Rattle.std.proofs.Common.{refl}
use Rattle.zbits.proofs.LayoutLemmas.{shows_word_of}
use Rattle.scsw_irb.specs.CodeTable.{code_tables, identification, interruption}
use Rattle.scsw_irb.proofs.Fits.{code-fit, one_words}
use Rattle.scsw_irb.proofs.law.code.Goals as goal

pub returns-clause-allowed : goal.returns-clause-allowed
returns-clause-allowed c s range =
    let fit = code-fit s range in
    let first = shows_word_of (identification s) refl fit.0 in
    let last = shows_word_of (interruption s) refl fit.1.1.0 in
    (first.0, first.1.1.0, last.0, last.1.1.0)

pub returns-clause-same : goal.returns-clause-same
returns-clause-same c s t in_s in_t h = one_words (code_tables s) (code_tables t) refl refl refl (code-fit s in_s) (code-fit t in_t) h
