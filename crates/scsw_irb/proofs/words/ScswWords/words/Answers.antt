use Rattle.std.proofs.Common.{◌∙◌, ap, map}
use Rattle.zbits.specs.Layout.{word_of}
use Rattle.scsw_irb.specs.declared.scsw.Scsw.{Scsw}
use Rattle.scsw_irb.specs.ScswTable.{scsw_tables}
use Rattle.scsw_irb.specs.ScswPacking.{words-are}
use Rattle.scsw_irb.proofs.words.ScswWords.words.Goals as goal

pub returns : goal.returns
returns c = words-are c.self.inside.words c.self.invariant ∙ ap (λ (s : Scsw). map word_of (scsw_tables s)) c.self.view_is
