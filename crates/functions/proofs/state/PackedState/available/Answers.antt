use Rattle.std.proofs.Common.{◌∙◌, ap}
use Rattle.chan_model.specs.PathSets.{paths_of_mask}
use Rattle.subchannel_model.specs.Store.{available_paths}
use Rattle.functions.specs.Unwired.{Unwired, unwired_of, unwired_sub}
use Rattle.functions.proofs.Tied.{available-is}
use Rattle.functions.proofs.state.PackedState.available.Goals as goal

pub returns : goal.returns
returns c =
    let s = c.self.inside in
    c.of_mask.ensures ∙ ap paths_of_mask c.available.ensures ∙ available-is (unwired_of s.setup s.pmcw s.scsw s.up s.rest) s.pmcw c.self.invariant
    ∙ ap (λ (x : Unwired). available_paths (unwired_sub x)) c.self.view_is
