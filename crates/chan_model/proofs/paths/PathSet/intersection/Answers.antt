use Rattle.std.proofs.Common.{◌∙◌, ap₂}
use Rattle.chan_model.proofs.PathMasks.{both-are}
use Rattle.chan_model.specs.PathSets.{in_both}
use Rattle.chan_model.proofs.paths.PathSet.intersection.Goals as goal

pub returns : goal.returns
returns c =
    both-are c.self.inside.mask c.other.inside.mask ∙ ap₂ in_both c.self.view_is c.other.view_is
