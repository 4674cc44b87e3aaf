use Rattle.std.proofs.Common.{List, ℕ, ◌++◌, ap, ◌∙◌}
use Rattle.script_text.proofs.Printing.{same_text, failed_so}
use Rattle.streams.proofs.Sinking.{takes_then}
use Rattle.seen_answers.specs.Seen as spec
use Rattle.seen_answers.proofs.seen_answer.put_path.Goals as goal

pub returns-then-put_path_name : goal.returns-then-put_path_name
returns-then-put_path_name g c =
    takes_then _ _ _ (spec.path_name c.args.crw.path) (spec.report_meaning c.args.crw.report ++ spec.overflow_meaning c.args.crw.overflow) _ c.if-put_path_name.ensures
    (same_text _ _ _ _ _ (ap (λ (text : List ℕ). text ++ c.overflow_meaning.result.now) c.report_meaning.ensures ∙ ap (λ (text : List ℕ). spec.report_meaning c.args.crw.report ++ text) c.overflow_meaning.ensures) c.put_both.ensures)

pub returns-else-put_path_name : goal.returns-else-put_path_name
returns-else-put_path_name g c =
    failed_so _ _ (spec.path_name c.args.crw.path) (spec.report_meaning c.args.crw.report ++ spec.overflow_meaning c.args.crw.overflow) _ c.if-put_path_name.false c.if-put_path_name.ensures
