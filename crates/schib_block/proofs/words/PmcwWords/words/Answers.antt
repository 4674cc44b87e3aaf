use Rattle.std.proofs.Common.{◌∙◌, ap, map}
use Rattle.zbits.specs.Layout.{word_of}
use Rattle.schib_block.specs.declared.pmcw.Pmcw.{Pmcw}
use Rattle.schib_block.specs.SchibTable.{pmcw_tables}
use Rattle.schib_block.specs.PmcwPacking.{words-are}
use Rattle.schib_block.proofs.words.PmcwWords.words.Goals as goal

pub returns-clause-image : goal.returns-clause-image
returns-clause-image c = words-are c.self.inside.words c.self.invariant ∙ ap (λ (p : Pmcw). map word_of (pmcw_tables p)) c.self.view_is

pub returns-clause-value : goal.returns-clause-value
returns-clause-value c = c.self.view_is
