use Rattle.std.proofs.Common.{List, [], ◌∷◌, ℕ, slice_index, subst}
use Rattle.zbits.specs.Layout.{AllShow}
use Rattle.schib_block.specs.Reading.{pmcw_of_words}
use Rattle.schib_block.specs.SchibTable.{pmcw_tables}
use Rattle.schib_block.proofs.SchibLemmas.{first_seven}
use Rattle.io_step.proofs.Reading.{shown}
use Rattle.io_step.proofs.operands.word_in.Goals as goal

pub returns-clause-shown : goal.returns-clause-shown
returns-clause-shown c =
    let w = c.be_words.result in
    let given = slice_index w 0 ∷ slice_index w 1 ∷ slice_index w 2 ∷ slice_index w 3 ∷ slice_index w 4 ∷ slice_index w 5 ∷ slice_index w 6 ∷ [] in
    subst (λ (words : List ℕ). AllShow words (pmcw_tables (pmcw_of_words given))) (first_seven c.args.image.now w c.be_words.ensures.words)
    (shown (slice_index w 0) (slice_index w 1) (slice_index w 2) (slice_index w 3) (slice_index w 4) (slice_index w 5) (slice_index w 6) (c.be_words.ensures.fit 0))

pub returns-clause-words : goal.returns-clause-words
returns-clause-words c = first_seven c.args.image.now c.be_words.result c.be_words.ensures.words
