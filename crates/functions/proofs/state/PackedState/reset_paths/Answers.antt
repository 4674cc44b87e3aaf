use Rattle.std.proofs.Common.{◌∙◌, ap, None}
use Rattle.subchannel_model.specs.Conditions.{found_operational}
use Rattle.functions.specs.Unwired.{Unwired, with_pmcw}
use Rattle.functions.proofs.state.PackedState.reset_paths.Goals as goal

pub returns : goal.returns
returns c =
    c.forget_last_used.ensures
    ∙ ap (λ (p : Unwired). with_pmcw p (record p.state.pmcw { last_used = None }))
    (c.find_operational.ensures ∙ ap (λ (p : Unwired). with_pmcw p (found_operational p.state.pmcw)) c.disable.ensures)
