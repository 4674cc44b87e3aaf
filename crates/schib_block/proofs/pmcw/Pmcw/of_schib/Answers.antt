-- The seven words that show the table are the first seven of the image.
use Rattle.std.proofs.Common.{◌∙◌, ℕ, List, ap, subst}
use Rattle.zbits.specs.Layout.{AllShow}
use Rattle.schib_block.specs.Reading.{pmcw_of_words}
use Rattle.schib_block.specs.SchibTable.{pmcw_tables}
use Rattle.schib_block.proofs.SchibLemmas.{first_seven}
use Rattle.schib_block.proofs.pmcw.Pmcw.of_schib.Goals as goal

pub returns-clause-shown : goal.returns-clause-shown
returns-clause-shown c =
    let seven = first_seven c.args.image.now c.be_words.result c.be_words.ensures.words in
    subst (λ (words : List ℕ). AllShow words (pmcw_tables c.of_words.result)) seven c.of_words.ensures.shown

pub returns-clause-value : goal.returns-clause-value
returns-clause-value c =
    let seven = first_seven c.args.image.now c.be_words.result c.be_words.ensures.words in
    c.of_words.ensures.value ∙ ap pmcw_of_words seven
