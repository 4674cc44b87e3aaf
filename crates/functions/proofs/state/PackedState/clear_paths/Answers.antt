use Rattle.std.proofs.Common.{◌∙◌, ap, None}
use Rattle.chan_model.specs.PathSets.{all_paths}
use Rattle.functions.specs.Unwired.{Unwired, with_pmcw}
use Rattle.functions.proofs.state.PackedState.clear_paths.Goals as goal

pub returns : goal.returns
returns c =
    c.restore_operational.ensures
    ∙ ap (λ (p : Unwired). with_pmcw p (record p.state.pmcw { operational = all_paths }))
    (c.forget_last_used.ensures ∙ ap (λ (p : Unwired). with_pmcw p (record p.state.pmcw { last_used = None })) c.find_operational.ensures)
