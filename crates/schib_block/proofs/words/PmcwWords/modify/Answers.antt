use Rattle.std.proofs.Common.{◌∙◌, ap}
use Rattle.schib_block.specs.declared.pmcw.Pmcw.{Pmcw}
use Rattle.schib_block.specs.Modify.{modified}
use Rattle.schib_block.specs.Reading.{pmcw_of_words}
use Rattle.schib_block.proofs.PmcwModifying.{modified-are, modified-is}
use Rattle.schib_block.proofs.words.PmcwWords.modify.Goals as goal

pub invariant_of-self : goal.invariant_of-self
invariant_of-self c =
    modified-are c.self.inside.words c.args.given.now c.modified_sense.result c.self.invariant c.are_words.ensures c.modified_sense.ensures.fits c.modified_sense.ensures.others

pub returns : goal.returns
returns c =
    modified-is c.self.inside.words c.args.given.now c.modified_sense.result c.args.takes_sense c.modified_sense.ensures.sense
    ∙ ap (λ (p : Pmcw). modified c.args.takes_sense p (pmcw_of_words c.args.given.now)) c.self.view_is
