use Rattle.std.proofs.Common.{◌∷◌, [], ◌++◌, codes}
use Rattle.script_text.proofs.Printing.{failed_so}
use Rattle.streams.proofs.Sinking.{takes_then}
use Rattle.event_lines.specs.EventLines as spec
use Rattle.event_lines.proofs.putting.put_execute_other.Goals as goal

pub returns-then-put_with_cpu : goal.returns-then-put_with_cpu
returns-then-put_with_cpu g c = takes_then _ _ _ (codes "cpu" ++ spec.spaced (spec.digit_word c.args.cpu ∷ [])) (spec.spaced (spec.other_words c.args.instruction.now)) _ c.if-put_with_cpu.ensures c.put_other.ensures

pub returns-else-put_with_cpu : goal.returns-else-put_with_cpu
returns-else-put_with_cpu g c = failed_so _ _ (codes "cpu" ++ spec.spaced (spec.digit_word c.args.cpu ∷ [])) (spec.spaced (spec.other_words c.args.instruction.now)) _ c.if-put_with_cpu.false c.if-put_with_cpu.ensures
