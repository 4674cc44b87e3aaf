use Rattle.scsw_irb.proofs.ScswShowing.{zeros-are}
use Rattle.scsw_irb.proofs.words.ScswWords.zero.Goals as goal

pub returns : goal.returns
returns c = zeros-are
