use Rattle.std.proofs.Common.{◌∙◌}
use Rattle.io_step.proofs.Enabled.{enabled-is}
use Rattle.io_step.proofs.enabling.enabling.Goals as goal

pub returns : goal.returns
returns c =
    c.modify.ensures
    ∙ enabled-is c.args.word.now c.words.result.now c.controls-given.result c.args.subclass c.args.multipath c.words.ensures.value
    c.controls-given.ensures.subclass c.controls-given.ensures.enabled c.controls-given.ensures.multipath
