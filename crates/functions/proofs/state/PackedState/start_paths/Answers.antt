use Rattle.std.proofs.Common.{◌∙◌, ap, List, Bool}
use Rattle.chan_model.specs.PathSets.{paths_of_mask}
use Rattle.subchannel_model.specs.Conditions.{found_operational}
use Rattle.functions.specs.Unwired.{Unwired, with_pmcw}
use Rattle.functions.proofs.state.PackedState.start_paths.Goals as goal

pub returns : goal.returns
returns c =
    let logical : (p : Unwired) (set : List Bool) → Unwired = λ p set. with_pmcw p (record p.state.pmcw { logical = set }) in
    c.find_operational.ensures
    ∙ ap (λ (p : Unwired). with_pmcw p (found_operational p.state.pmcw))
    (c.set_logical.ensures ∙ ap (logical c.set_parameter.new.self) c.of_mask.ensures ∙ ap (λ (p : Unwired). logical p (paths_of_mask c.args.orb.now.paths)) c.set_parameter.ensures)
