use Rattle.std.proofs.Common.{ap, ◌∙◌, ◌*◌, List, ℕ}
use Rattle.std.specs.Prelude.{codes}
use Rattle.word_parts.specs.Parts.{Named, names_text}
use Rattle.word_parts.specs.ScswNames as spec
use Rattle.word_parts.proofs.Growing.{text_as}
use Rattle.word_names.proofs.scsw.put_subchannel_status.Goals as goal

pub returns : goal.returns
returns g c =
    text_as _ _ _ _ _
    (ap (λ (ps : List Named). names_text (codes ", ") ps (c.from.result * 0x10000)) c.subchannel_parts.ensures
    ∙ ap (λ (n : ℕ). names_text (codes ", ") spec.subchannel (n * 0x10000)) c.from.ensures)
    c.put_names.ensures
