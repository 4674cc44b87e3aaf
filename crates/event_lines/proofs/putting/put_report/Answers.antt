use Rattle.std.proofs.Common.{◌∷◌, codes}
use Rattle.script_text.proofs.Printing.{failed_so}
use Rattle.streams.proofs.Sinking.{takes_then}
use Rattle.event_lines.specs.EventLines as spec
use Rattle.event_lines.proofs.putting.put_report.Goals as goal

pub returns-then-put_report_place : goal.returns-then-put_report_place
returns-then-put_report_place g c = takes_then _ _ _ (spec.joined (codes "report" ∷ spec.eight_digits c.args.unit ∷ spec.place_words c.args.report.now)) (spec.spaced (spec.answer_words c.args.report.now.answer)) _ c.if-put_report_place.ensures c.put_answer.ensures

pub returns-else-put_report_place : goal.returns-else-put_report_place
returns-else-put_report_place g c = failed_so _ _ (spec.joined (codes "report" ∷ spec.eight_digits c.args.unit ∷ spec.place_words c.args.report.now)) (spec.spaced (spec.answer_words c.args.report.now.answer)) _ c.if-put_report_place.false c.if-put_report_place.ensures
