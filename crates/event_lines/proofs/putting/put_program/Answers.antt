use Rattle.std.proofs.Common.{◌∷◌, []}
use Rattle.script_text.proofs.Printing.{failed_so}
use Rattle.streams.proofs.Sinking.{takes_then}
use Rattle.event_lines.specs.EventLines as spec
use Rattle.event_lines.proofs.putting.put_program.Goals as goal

pub returns-then-put_side : goal.returns-then-put_side
returns-then-put_side g c = takes_then _ _ _ (spec.spaced (spec.side_word c.args.side ∷ [])) (spec.spaced (spec.sixteen_digits c.args.program ∷ [])) _ c.if-put_side.ensures c.put_sixteen.ensures

pub returns-else-put_side : goal.returns-else-put_side
returns-else-put_side g c = failed_so _ _ (spec.spaced (spec.side_word c.args.side ∷ [])) (spec.spaced (spec.sixteen_digits c.args.program ∷ [])) _ c.if-put_side.false c.if-put_side.ensures
