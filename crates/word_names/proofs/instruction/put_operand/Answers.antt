use Rattle.std.proofs.Common.{ap, ◌++◌, List, ℕ}
use Rattle.std.specs.Prelude.{codes}
use Rattle.word_parts.specs.Numbers.{hex_text}
use Rattle.word_parts.proofs.Growing.{text_as}
use Rattle.word_names.proofs.instruction.put_operand.Goals as goal

pub returns : goal.returns
returns g c = text_as _ _ _ _ _ (ap (λ (text : List ℕ). (text ++ hex_text 1 c.args.address) ++ codes ", two words") c.stored_words.ensures) c.put_hex_between.ensures
