use Rattle.std.proofs.Common.{◌<◌, ◌∙◌, ap, ℕ, slice_index, arith, lit<}
use Rattle.schib_block.specs.declared.pmcw.Pmcw.{Pmcw}
use Rattle.schib_block.proofs.PmcwMarking.{word-3-is}
use Rattle.schib_block.proofs.words.PmcwWords.set_available.Goals as goal

pub returns : goal.returns
returns c =
    let w = c.self.inside.words in
    let small : c.from.result < 256 = omega (arith, c.from.ensures, c.ranges.mask.fits) in
    word-3-is (slice_index w 0) (slice_index w 1) (slice_index w 2) (slice_index w 3) (slice_index w 4) (slice_index w 5) (slice_index w 6) 3 c.from.result (lit< tt) (lit< tt) small
    ∙ ap (λ (p : Pmcw). record p { available = c.from.result }) c.self.view_is
    ∙ ap (λ (m : ℕ). record c.args.self.now { available = m }) c.from.ensures
