use Rattle.std.proofs.Common.{◌≡◌, ◌<◌, ◌*◌, ◌%◌, ◌∙◌, ap, ℕ, ◌∷◌, [], slice_index, arith, lit<}
use Rattle.schib_block.specs.declared.pmcw.Pmcw.{Pmcw}
use Rattle.schib_block.specs.Reading.{pmcw_of_words}
use Rattle.schib_block.proofs.PmcwMarking.{with_byte, word-2-is}
use Rattle.schib_block.proofs.words.PmcwWords.set_last_used.Goals as goal

pub returns : goal.returns
returns c =
    let w = c.self.inside.words in
    let m = c.from.result in
    let small : m < 256 = omega (arith, c.from.ensures, c.ranges.mask.fits) in
    let shifted : m * 256 % 4294967296 ≡ m * 256 = omega (arith, small) in
    ap (λ (s : ℕ). pmcw_of_words (slice_index w 0 ∷ slice_index w 1 ∷ with_byte (slice_index w 2) 4294902015 s ∷ slice_index w 3 ∷ slice_index w 4 ∷ slice_index w 5 ∷ slice_index w 6 ∷ [])) shifted
    ∙ word-2-is (slice_index w 0) (slice_index w 1) (slice_index w 2) (slice_index w 3) (slice_index w 4) (slice_index w 5) (slice_index w 6) 2 m (lit< tt) small
    ∙ ap (λ (p : Pmcw). record p { last_used = m }) c.self.view_is
    ∙ ap (λ (n : ℕ). record c.args.self.now { last_used = n }) c.from.ensures
