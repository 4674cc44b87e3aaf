use Rattle.std.proofs.Common.{◌∙◌, ap, slice_index}
use Rattle.schib_block.specs.declared.pmcw.Pmcw.{Pmcw}
use Rattle.schib_block.proofs.PmcwModifying.{enabled-is}
use Rattle.schib_block.proofs.words.PmcwWords.is_enabled.Goals as goal

pub returns : goal.returns
returns c = enabled-is (slice_index c.self.inside.words 1) ∙ ap (λ (p : Pmcw). p.enabled) c.self.view_is
