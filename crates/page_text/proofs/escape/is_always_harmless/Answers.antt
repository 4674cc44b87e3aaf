use Rattle.page_text.proofs.Escaping.{always_harmless}
use Rattle.page_text.proofs.escape.is_always_harmless.Goals as goal

pub returns : goal.returns
returns c = always_harmless
