use Rattle.std.proofs.Common.{ap, sym}
use Rattle.word_names.specs.CodeWords as spec
use Rattle.word_parts.proofs.Growing.{text_as}
use Rattle.word_names.proofs.instruction.put_zero.Goals as goal

pub returns-in-TestPending : goal.returns-in-TestPending
returns-in-TestPending g c = text_as _ _ _ _ _ (ap spec.zero_text (sym c.in-TestPending.is)) c.put_subclasses.ensures
