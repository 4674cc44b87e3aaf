use Rattle.std.proofs.Common.{◌∷◌, [], ◌++◌, codes}
use Rattle.script_text.specs.Text.{byte_text, word_text}
use Rattle.script_text.proofs.Printing.{failed_so}
use Rattle.streams.proofs.Sinking.{takes_then}
use Rattle.event_lines.specs.EventLines as spec
use Rattle.event_lines.proofs.putting.put_tpi.Goals as goal

pub returns-then-put_named_byte : goal.returns-then-put_named_byte
returns-then-put_named_byte g c = takes_then _ _ _ (codes " tpi" ++ spec.spaced (byte_text c.args.mask ∷ [])) (word_text c.args.address) _ c.if-put_named_byte.ensures c.put_word.ensures

pub returns-else-put_named_byte : goal.returns-else-put_named_byte
returns-else-put_named_byte g c = failed_so _ _ (codes " tpi" ++ spec.spaced (byte_text c.args.mask ∷ [])) (word_text c.args.address) _ c.if-put_named_byte.false c.if-put_named_byte.ensures
