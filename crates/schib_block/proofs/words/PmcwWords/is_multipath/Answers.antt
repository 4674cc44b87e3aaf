use Rattle.std.proofs.Common.{◌∙◌, ap, slice_index}
use Rattle.schib_block.specs.declared.pmcw.Pmcw.{Pmcw}
use Rattle.schib_block.proofs.PmcwModifying.{multipath-is}
use Rattle.schib_block.proofs.words.PmcwWords.is_multipath.Goals as goal

pub returns : goal.returns
returns c = multipath-is (slice_index c.self.inside.words 1) ∙ ap (λ (p : Pmcw). p.multipath) c.self.view_is
