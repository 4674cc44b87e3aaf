use Rattle.std.proofs.Common.{◌∙◌, ap₂, ℕ, List, Bool, false}
use Rattle.chan_model.proofs.PathMasks.{removed-is}
use Rattle.std.specs.Prelude.{slice_set}
use Rattle.chan_model.proofs.paths.PathSet.remove.Goals as goal

pub returns : goal.returns
returns c =
    removed-is c.self.inside.mask c.index.result c.index.ensures.bound
    ∙ ap₂ (λ (xs : List Bool) (k : ℕ). slice_set xs k false) c.self.view_is c.index.ensures.value
