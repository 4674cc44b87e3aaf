use Rattle.std.proofs.Common.{◌∷◌, []}
use Rattle.script_text.proofs.Printing.{failed_so}
use Rattle.streams.proofs.Sinking.{takes_then}
use Rattle.event_lines.specs.EventLines as spec
use Rattle.event_lines.proofs.putting.put_place.Goals as goal

pub returns-then-put_program : goal.returns-then-put_program
returns-then-put_program g c = takes_then _ _ _ (spec.spaced (spec.side_word c.args.report.now.side ∷ spec.sixteen_digits c.args.report.now.number ∷ [])) (spec.spaced (spec.sixteen_digits c.args.report.now.command ∷ spec.sixteen_digits c.args.report.now.sequence ∷ [])) _ c.if-put_program.ensures c.put_chunk.ensures

pub returns-else-put_program : goal.returns-else-put_program
returns-else-put_program g c = failed_so _ _ (spec.spaced (spec.side_word c.args.report.now.side ∷ spec.sixteen_digits c.args.report.now.number ∷ [])) (spec.spaced (spec.sixteen_digits c.args.report.now.command ∷ spec.sixteen_digits c.args.report.now.sequence ∷ [])) _ c.if-put_program.false c.if-put_program.ensures
