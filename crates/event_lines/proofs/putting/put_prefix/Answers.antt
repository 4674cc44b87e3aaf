use Rattle.std.proofs.Common.{◌∷◌, [], ◌++◌, codes}
use Rattle.script_text.specs.Text.{word_text}
use Rattle.script_text.proofs.Printing.{failed_so}
use Rattle.streams.proofs.Sinking.{takes_then}
use Rattle.event_lines.specs.EventLines as spec
use Rattle.event_lines.proofs.putting.put_prefix.Goals as goal

pub returns-then-put_with_cpu : goal.returns-then-put_with_cpu
returns-then-put_with_cpu g c = takes_then _ _ _ (codes "prefix" ++ spec.spaced (spec.digit_word c.args.cpu ∷ [])) (word_text c.args.address) _ c.if-put_with_cpu.ensures c.put_word.ensures

pub returns-else-put_with_cpu : goal.returns-else-put_with_cpu
returns-else-put_with_cpu g c = failed_so _ _ (codes "prefix" ++ spec.spaced (spec.digit_word c.args.cpu ∷ [])) (word_text c.args.address) _ c.if-put_with_cpu.false c.if-put_with_cpu.ensures
