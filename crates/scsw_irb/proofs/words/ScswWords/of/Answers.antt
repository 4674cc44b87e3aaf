use Rattle.scsw_irb.proofs.ScswShowing.{packed-are, packed-is}
use Rattle.scsw_irb.proofs.words.ScswWords.of.Goals as goal

pub invariant_of-result : goal.invariant_of-result
invariant_of-result c = packed-are c.words.result c.args.scsw c.is_in_range.ensures c.words.ensures

pub returns : goal.returns
returns c = packed-is c.words.result c.args.scsw c.is_in_range.ensures c.words.ensures
