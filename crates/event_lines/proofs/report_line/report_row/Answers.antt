use Rattle.std.proofs.Common.{ap, ◌∙◌, [], List, ℕ}
use Rattle.std.specs.Prelude.{slice_index_or}
use Rattle.event_lines.specs.ReportLines as spec
use Rattle.event_lines.proofs.Rows.{Word, enough, too_few}
use Rattle.event_lines.proofs.report_line.report_row.Goals as goal

pub returns-in_default : goal.returns-in_default
returns-in_default c = too_few c.args.words.now c.in_default.len_below

pub returns : goal.returns
returns c =
    let none : Word = record { ref_ptr = (0, 0); now = [] } in
    let at : ℕ → List ℕ = λ k. (slice_index_or c.args.words.now k none).now in
    c.report_of.ensures ∙ ap (λ answer. spec.report_of (at 0) (at 1) (at 2) (at 3) (at 4) answer) c.answer_row.ensures
    ∙ enough c.args.words.now none c.in-len6-up.len_at_least
