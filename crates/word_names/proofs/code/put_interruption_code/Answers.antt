use Rattle.std.proofs.Common.{ap, sym, ℕ}
use Rattle.word_parts.specs.CodeNames as spec
use Rattle.word_parts.proofs.Growing.{text_as}
use Rattle.word_names.proofs.code.put_interruption_code.Goals as goal

pub returns-in-1 : goal.returns-in-1
returns-in-1 g c = text_as _ _ _ _ _ (ap (λ (i : ℕ). spec.code_text i c.args.word) (sym c.in-1.is)) c.put.ensures
