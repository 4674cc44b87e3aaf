use Rattle.std.proofs.Common.{◌∙◌, sym, ap}
use Rattle.chan_model.specs.PathSets.{mask_of_paths}
use Rattle.chan_model.specs.Masks.{mask-is}
use Rattle.chan_model.proofs.paths.PathSet.mask.Goals as goal

pub returns : goal.returns
returns c = record {
  mask = sym (mask-is c.self.inside.mask c.self.invariant) ∙ ap mask_of_paths c.self.view_is;
  set = c.self.view_is;
}
