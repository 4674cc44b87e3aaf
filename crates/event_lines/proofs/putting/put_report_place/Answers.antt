use Rattle.std.proofs.Common.{◌++◌, codes}
use Rattle.script_text.specs.Text.{word_text}
use Rattle.script_text.proofs.Printing.{failed_so}
use Rattle.streams.proofs.Sinking.{takes_then}
use Rattle.event_lines.specs.EventLines as spec
use Rattle.event_lines.proofs.putting.put_report_place.Goals as goal

pub returns-then-put_named : goal.returns-then-put_named
returns-then-put_named g c = takes_then _ _ _ (codes "report" ++ word_text c.args.unit) (spec.spaced (spec.place_words c.args.report.now)) _ c.if-put_named.ensures c.put_place.ensures

pub returns-else-put_named : goal.returns-else-put_named
returns-else-put_named g c = failed_so _ _ (codes "report" ++ word_text c.args.unit) (spec.spaced (spec.place_words c.args.report.now)) _ c.if-put_named.false c.if-put_named.ensures
