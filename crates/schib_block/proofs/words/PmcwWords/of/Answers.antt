use Rattle.schib_block.proofs.PmcwWritten.{packed-are, packed-is}
use Rattle.schib_block.proofs.words.PmcwWords.of.Goals as goal

pub invariant_of-result : goal.invariant_of-result
invariant_of-result c = packed-are c.words-words.result c.args.pmcw c.is_whole.ensures.range c.words-words.ensures

pub returns : goal.returns
returns c = packed-is c.words-words.result c.args.pmcw c.is_whole.ensures.range c.is_whole.ensures.eight c.words-words.ensures
