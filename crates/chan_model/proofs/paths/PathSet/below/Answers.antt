use Rattle.chan_model.proofs.PathMasks.{below-is}
use Rattle.chan_model.proofs.paths.PathSet.below.Goals as goal

pub returns-then-count-lt8 : goal.returns-then-count-lt8
returns-then-count-lt8 c = below-is c.args.count c.if-count-lt8.true
