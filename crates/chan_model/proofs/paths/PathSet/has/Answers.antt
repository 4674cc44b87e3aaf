use Rattle.std.proofs.Common.{◌∙◌, ap₂}
use Rattle.chan_model.proofs.PathMasks.{has-is}
use Rattle.chan_model.specs.PathSets.{is_member}
use Rattle.chan_model.proofs.paths.PathSet.has.Goals as goal

pub returns : goal.returns
returns c =
    has-is c.self.inside.mask c.index.result c.index.ensures.bound ∙ ap₂ is_member c.self.view_is c.index.ensures.value
