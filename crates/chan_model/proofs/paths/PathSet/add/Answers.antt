use Rattle.std.proofs.Common.{◌∙◌, ap₂, ℕ, List, Bool, true}
use Rattle.chan_model.proofs.PathMasks.{added-is}
use Rattle.std.specs.Prelude.{slice_set}
use Rattle.chan_model.proofs.paths.PathSet.add.Goals as goal

pub returns : goal.returns
returns c =
    added-is c.self.inside.mask c.index.result c.index.ensures.bound
    ∙ ap₂ (λ (xs : List Bool) (k : ℕ). slice_set xs k true) c.self.view_is c.index.ensures.value
