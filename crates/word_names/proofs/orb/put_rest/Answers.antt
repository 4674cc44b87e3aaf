use Rattle.std.specs.Prelude.{codes}
use Rattle.streams.proofs.Sinking.{takes_then}
use Rattle.word_parts.specs.Parts.{names_text}
use Rattle.word_parts.specs.OrbNames as spec
use Rattle.word_parts.proofs.Growing.{failed_so}
use Rattle.word_names.proofs.orb.put_rest.Goals as goal

pub returns-then-put_control : goal.returns-then-put_control
returns-then-put_control g c =
    takes_then _ _ _ (spec.word_text spec.word_1 c.args.control) (names_text (codes "; ") spec.word_2 c.args.program) _ c.if-put_control.ensures
    c.put_program.ensures

pub returns-else-put_control : goal.returns-else-put_control
returns-else-put_control g c =
    failed_so _ _ (spec.word_text spec.word_1 c.args.control) (names_text (codes "; ") spec.word_2 c.args.program) _ c.if-put_control.false c.if-put_control.ensures
