use Rattle.std.proofs.Common.{ap, sym}
use Rattle.std.specs.List.{list_any}
use Rattle.script.specs.Parsing.{has_words}
use Rattle.script.proofs.text.TextLine.later.Goals as goal

pub returns-in-None : goal.returns-in-None
returns-in-None c = sym (ap (list_any has_words) c.in-None.ensures)
