use Rattle.std.proofs.Common.{◌≡◌, ◌<◌, ◌*◌, ◌%◌, ◌∙◌, ap, ℕ, ◌∷◌, [], slice_index, arith, lit<}
use Rattle.std.proofs.lemmas.Nat.{mod_below}
use Rattle.schib_block.specs.declared.pmcw.Pmcw.{Pmcw}
use Rattle.schib_block.specs.Reading.{pmcw_of_words}
use Rattle.schib_block.proofs.PmcwMarking.{third-are, with_byte, with_byte-lt, word-2-is}
use Rattle.schib_block.proofs.words.PmcwWords.set_logical.Goals as goal

pub returns : goal.returns
returns c =
    let w = c.self.inside.words in
    let m = c.from.result in
    let small : m < 256 = omega (arith, c.from.ensures, c.ranges.mask.fits) in
    let shifted : m * 16777216 % 4294967296 ≡ m * 16777216 = omega (arith, small) in
    ap (λ (s : ℕ). pmcw_of_words (slice_index w 0 ∷ slice_index w 1 ∷ with_byte (slice_index w 2) 16777215 s ∷ slice_index w 3 ∷ slice_index w 4 ∷ slice_index w 5 ∷ slice_index w 6 ∷ [])) shifted
    ∙ word-2-is (slice_index w 0) (slice_index w 1) (slice_index w 2) (slice_index w 3) (slice_index w 4) (slice_index w 5) (slice_index w 6) 0 m (lit< tt) small
    ∙ ap (λ (p : Pmcw). record p { logical = m }) c.self.view_is
    ∙ ap (λ (n : ℕ). record c.args.self.now { logical = n }) c.from.ensures

pub invariant_of-self : goal.invariant_of-self
invariant_of-self c =
    let w = c.self.inside.words in
    let s = c.from.result * 16777216 % 4294967296 in
    third-are w (with_byte (slice_index w 2) 16777215 s) c.self.invariant (with_byte-lt (slice_index w 2) 16777215 s (lit< tt) (mod_below (c.from.result * 16777216) 4294967296 (lit< tt)))
