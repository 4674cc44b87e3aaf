use Rattle.std.proofs.Common.{◌∷◌, [], ◌++◌, codes, ap, sym, Bool}
use Rattle.script_text.specs.Text.{byte_text}
use Rattle.script_text.proofs.Printing.{failed_so, same_text}
use Rattle.streams.proofs.Sinking.{takes_then}
use Rattle.event_lines.specs.EventLines as spec
use Rattle.event_lines.specs.ReportLines.{ended}
use Rattle.event_lines.proofs.putting.put_ended.Goals as goal

pub returns-then-put_named_byte : goal.returns-then-put_named_byte
returns-then-put_named_byte g c =
    same_text _ _ _ _ _ (ap (λ (more : Bool). spec.spaced (spec.answer_words (ended c.args.status more))) (sym c.if-more.true))
    (takes_then _ _ _ (codes " ended" ++ spec.spaced (byte_text c.args.status ∷ [])) (codes " more") _ c.if-put_named_byte.ensures c.put.ensures)

pub returns-else-put_named_byte : goal.returns-else-put_named_byte
returns-else-put_named_byte g c =
    same_text _ _ _ _ _ (ap (λ (more : Bool). spec.spaced (spec.answer_words (ended c.args.status more))) (sym c.if-more.true))
    (failed_so _ _ (codes " ended" ++ spec.spaced (byte_text c.args.status ∷ [])) (codes " more") _ c.if-put_named_byte.false c.if-put_named_byte.ensures)
