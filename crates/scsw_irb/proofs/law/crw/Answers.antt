-- The table of channel-report words.
use Rattle.std.proofs.Common.{◌≡◌, ℕ, [], ◌∷◌, IsSome, refl, sym, subst, ap}
use Rattle.zbits.specs.Bits.{field_of}
use Rattle.zbits.specs.Layout.{word_of, bit_number}
use Rattle.zbits.proofs.LayoutLemmas.{shows_word_of}
use Rattle.scsw_irb.specs.declared.crw.PathReport.{PathReport}
use Rattle.scsw_irb.specs.declared.crw.PathReport.TheVariants.{Lost, Back, Initialized, ResetDone}
use Rattle.scsw_irb.specs.CrwTable.{crw_table, error_code, is_solicited, report_of_code}
use Rattle.scsw_irb.proofs.Fits.{crw-fit, one_words}
use Rattle.scsw_irb.proofs.law.crw.Goals as goal

-- each report has a code
coded : (report : PathReport) → IsSome (report_of_code (bit_number (is_solicited report)) (error_code report))
coded Lost = refl
coded Back = refl
coded Initialized = refl
coded ResetDone = refl

pub returns-clause-allowed : goal.returns-clause-allowed
returns-clause-allowed c s range =
    let word = word_of (crw_table s) in
    let shown = shows_word_of (crw_table s) refl (crw-fit s range) in
    let solicited = subst (λ (x : ℕ). IsSome (report_of_code x (error_code s.report))) (sym shown.1.0) (coded s.report) in
    let report = subst (λ (x : ℕ). IsSome (report_of_code (field_of word 1 1) x)) (sym shown.1.1.1.1.1.1.0) solicited in
    (shown.0, shown.1.1.1.0, shown.1.1.1.1.0, shown.1.1.1.1.1.0, shown.1.1.1.1.1.1.1.0, report)

pub returns-clause-same : goal.returns-clause-same
returns-clause-same c s t in_s in_t h =
    let tables : crw_table s ∷ [] ≡ crw_table t ∷ [] = one_words (crw_table s ∷ []) (crw_table t ∷ []) refl refl refl (crw-fit s in_s, tt) (crw-fit t in_t, tt) (ap (λ (x : ℕ). x ∷ []) h) in
    cc
