use Rattle.std.proofs.Common.{slice_index}
use Rattle.schib_block.proofs.PmcwModifying.{allowed-is}
use Rattle.schib_block.proofs.words.PmcwWords.is_allowed.Goals as goal

pub returns : goal.returns
returns c = allowed-is (slice_index c.args.given.now 1)
