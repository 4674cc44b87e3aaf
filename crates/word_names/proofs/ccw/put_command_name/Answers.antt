use Rattle.std.proofs.Common.{ap, sym, ◌∙◌, List, ℕ}
use Rattle.channel_config.specs.declared.parts.UnitKind.{UnitKind}
use Rattle.word_parts.specs.CcwNames as spec
use Rattle.word_parts.proofs.Growing.{text_as}
use Rattle.word_names.proofs.ccw.put_command_name.Goals as goal

pub returns-in-Block : goal.returns-in-Block
returns-in-Block g c =
    text_as _ _ _ _ _
    (ap (λ (name : List ℕ). spec.known_text name c.args.code) c.block_name.ensures
    ∙ ap (λ (kind : UnitKind). spec.command_text kind c.args.code) (sym c.in-Block.is))
    c.put_known.ensures

pub returns-in-Console : goal.returns-in-Console
returns-in-Console g c =
    text_as _ _ _ _ _
    (ap (λ (name : List ℕ). spec.known_text name c.args.code) c.console_name.ensures
    ∙ ap (λ (kind : UnitKind). spec.command_text kind c.args.code) (sym c.in-Console.is))
    c.put_known-in-Console.ensures
