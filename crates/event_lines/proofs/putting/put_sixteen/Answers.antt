use Rattle.std.proofs.Common.{◌/◌, ◌%◌}
use Rattle.script_text.specs.Text.{word_text}
use Rattle.script_text.proofs.Printing.{failed_so}
use Rattle.streams.proofs.Sinking.{takes_then}
use Rattle.event_lines.specs.EventLines as spec
use Rattle.event_lines.proofs.putting.put_sixteen.Goals as goal

pub returns-then-put_word : goal.returns-then-put_word
returns-then-put_word g c = takes_then _ _ _ (word_text (c.args.number / 0x100000000)) (spec.eight_digits (c.args.number % 0x100000000)) _ c.if-put_word.ensures c.put_eight.ensures

pub returns-else-put_word : goal.returns-else-put_word
returns-else-put_word g c = failed_so _ _ (word_text (c.args.number / 0x100000000)) (spec.eight_digits (c.args.number % 0x100000000)) _ c.if-put_word.false c.if-put_word.ensures
