use Rattle.std.proofs.Common.{◌++◌, codes, ap, sym, ◌∙◌}
use Rattle.script_text.specs.Text.{word_text}
use Rattle.script_text.proofs.Printing.{same_text}
use Rattle.event_lines.specs.EventLines as spec
use Rattle.event_lines.proofs.putting.put_answer.Goals as goal

pub returns-in-Absorbed : goal.returns-in-Absorbed
returns-in-Absorbed g c = same_text _ _ _ _ _ (ap (λ n. codes " absorbed" ++ word_text n) c.from.ensures ∙ ap (λ e. spec.spaced (spec.answer_words e)) (sym c.in-Absorbed.is)) c.put_named.ensures
