-- The words of an image are those of the tables that made it.
use Rattle.std.proofs.Common.{◌∙◌, ℕ, List, sym, subst, ap, ◌++◌}
use Rattle.std.specs.Prelude.{replicate}
use Rattle.zbits.specs.declared.layout.BitField.{BitField}
use Rattle.zbits.specs.Layout.{AllShow}
use Rattle.scsw_irb.specs.ScswTable.{IsScsw, scsw_tables, zero_word}
use Rattle.schib_block.specs.SchibTable.{pmcw_tables}
use Rattle.schib_block.proofs.Written.{pmcw_words, same_pmcw, status_words}
use Rattle.schib_block.proofs.law.read_back.Goals as goal

pub returns-clause-allowed : goal.returns-clause-allowed
returns-clause-allowed c s range = subst (λ (words : List ℕ). IsScsw words) (sym (status_words s range)) (c.scsw.ensures.allowed s.scsw range.scsw)

pub returns-clause-same_pmcw : goal.returns-clause-same_pmcw
returns-clause-same_pmcw c s p range shown =
    same_pmcw s.pmcw p range.pmcw (subst (λ (words : List ℕ). AllShow words (pmcw_tables p)) (pmcw_words s range) shown)

pub returns-clause-same : goal.returns-clause-same
returns-clause-same c s t in_s in_t shown =
    let pmcw = same_pmcw s.pmcw t.pmcw in_s.pmcw (subst (λ (words : List ℕ). AllShow words (pmcw_tables t.pmcw)) (pmcw_words s in_s) shown.pmcw) in
    let status = c.scsw.ensures.same s.scsw t.scsw in_s.scsw in_t.scsw (sym (status_words s in_s) ∙ shown.scsw) in
    ap (λ (tables : List (List BitField)). tables ++ scsw_tables s.scsw ++ replicate 3 zero_word) pmcw
    ∙ ap (λ (tables : List (List BitField)). pmcw_tables t.pmcw ++ tables ++ replicate 3 zero_word) status
