use Rattle.std.proofs.Common.{◌∙◌, ap₂}
use Rattle.chan_model.proofs.PathMasks.{without-are}
use Rattle.chan_model.specs.PathSets.{without}
use Rattle.chan_model.proofs.paths.PathSet.without.Goals as goal

pub returns : goal.returns
returns c =
    without-are c.self.inside.mask c.other.inside.mask c.other.invariant ∙ ap₂ without c.self.view_is c.other.view_is
