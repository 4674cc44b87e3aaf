use Rattle.std.proofs.Common.{◌∙◌, ap₂}
use Rattle.chan_model.proofs.PathMasks.{joined-are}
use Rattle.chan_model.specs.PathSets.{joined}
use Rattle.chan_model.proofs.paths.PathSet.union.Goals as goal

pub returns : goal.returns
returns c =
    joined-are c.self.inside.mask c.other.inside.mask ∙ ap₂ joined c.self.view_is c.other.view_is
