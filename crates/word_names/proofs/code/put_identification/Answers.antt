use Rattle.std.proofs.Common.{sym, ◌∙◌}
use Rattle.std.specs.Prelude.{codes}
use Rattle.word_parts.specs.Parts.{names_text}
use Rattle.word_parts.specs.CodeNames as spec
use Rattle.word_parts.proofs.Growing.{chosen, left}
use Rattle.word_names.proofs.code.put_identification.Goals as goal

pub returns-then-names_subchannel : goal.returns-then-names_subchannel
returns-then-names_subchannel g c =
    chosen _ _ (spec.subchannel_text c.args.word) (names_text (codes "; ") spec.word_0 c.args.word) (spec.names_subchannel c.args.word) _
    (sym c.names_subchannel.ensures ∙ c.if-names_subchannel.true) c.put_subchannel.ensures

pub returns-else-names_subchannel : goal.returns-else-names_subchannel
returns-else-names_subchannel g c =
    left _ _ (spec.subchannel_text c.args.word) (names_text (codes "; ") spec.word_0 c.args.word) (spec.names_subchannel c.args.word) _
    (sym c.names_subchannel.ensures ∙ c.if-names_subchannel.false) c.put_unnamed.ensures
