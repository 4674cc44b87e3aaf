use Rattle.std.proofs.Common.{◌∙◌, ap, ℕ, ◌==◌}
use Rattle.chan_model.specs.PathSets.{each_path}
use Rattle.chan_model.proofs.PathMasks.{one-is}
use Rattle.chan_model.proofs.paths.PathSet.one.Goals as goal

pub returns : goal.returns
returns c =
    one-is c.index.result c.index.ensures.bound ∙ ap (λ (k : ℕ). each_path (λ (other : ℕ). k == other)) c.index.ensures.value
