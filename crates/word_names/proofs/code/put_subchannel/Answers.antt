use Rattle.std.proofs.Common.{ap, ◌∙◌, ◌++◌, ℕ}
use Rattle.std.specs.Prelude.{codes}
use Rattle.zbits.specs.Bits.{field_of}
use Rattle.word_parts.specs.Numbers.{hex_text}
use Rattle.word_parts.proofs.Growing.{text_as}
use Rattle.word_names.proofs.code.put_subchannel.Goals as goal

pub returns : goal.returns
returns g c =
    text_as _ _ _ _ _
    (ap (λ (n : ℕ). (codes "subchannel " ++ hex_text 1 n) ++ (codes " of set " ++ hex_text 1 c.field-2.result)) c.field.ensures.value
    ∙ ap (λ (n : ℕ). (codes "subchannel " ++ hex_text 1 (field_of c.args.word 16 31)) ++ (codes " of set " ++ hex_text 1 n)) c.field-2.ensures.value)
    c.put_hex_pair.ensures
