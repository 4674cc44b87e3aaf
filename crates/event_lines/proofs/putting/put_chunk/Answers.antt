use Rattle.std.proofs.Common.{◌∷◌, []}
use Rattle.script_text.proofs.Printing.{failed_so}
use Rattle.streams.proofs.Sinking.{takes_then}
use Rattle.event_lines.specs.EventLines as spec
use Rattle.event_lines.proofs.putting.put_chunk.Goals as goal

pub returns-then-put_sixteen : goal.returns-then-put_sixteen
returns-then-put_sixteen g c = takes_then _ _ _ (spec.spaced (spec.sixteen_digits c.args.command ∷ [])) (spec.spaced (spec.sixteen_digits c.args.chunk ∷ [])) _ c.if-put_sixteen.ensures c.put_sixteen-then-put_sixteen.ensures

pub returns-else-put_sixteen : goal.returns-else-put_sixteen
returns-else-put_sixteen g c = failed_so _ _ (spec.spaced (spec.sixteen_digits c.args.command ∷ [])) (spec.spaced (spec.sixteen_digits c.args.chunk ∷ [])) _ c.if-put_sixteen.false c.if-put_sixteen.ensures
