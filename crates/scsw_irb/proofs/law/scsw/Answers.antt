-- The tables of status words.
use Rattle.std.proofs.Common.{refl}
use Rattle.zbits.proofs.LayoutLemmas.{shows_word_of}
use Rattle.scsw_irb.specs.ScswTable.{scsw_tables, word_0}
use Rattle.scsw_irb.proofs.Fits.{scsw-fit, one_words}
use Rattle.scsw_irb.proofs.law.scsw.Goals as goal

pub returns-clause-allowed : goal.returns-clause-allowed
returns-clause-allowed c s range =
    let shown = shows_word_of (word_0 s) refl (scsw-fit s range).0 in
    (shown.1.1.0, shown.1.1.1.1.1.1.1.1.1.0, shown.1.1.1.1.1.1.1.1.1.1.1.0)

pub returns-clause-same : goal.returns-clause-same
returns-clause-same c s t in_s in_t h = one_words (scsw_tables s) (scsw_tables t) refl refl refl (scsw-fit s in_s) (scsw-fit t in_t) h
