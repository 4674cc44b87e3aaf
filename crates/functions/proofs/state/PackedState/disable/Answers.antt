use Rattle.std.proofs.Common.{◌∙◌, ◌<◌, ap, lit<}
use Rattle.std.proofs.Math.Bridge.{le_prop}
use Rattle.schib_block.specs.declared.pmcw.Pmcw.{Pmcw}
use Rattle.schib_block.specs.Reading.{subclass-lt}
use Rattle.functions.specs.Unwired.{Unwired, disabled, unwired_of, with_pmcw}
use Rattle.functions.proofs.state.PackedState.disable.Goals as goal

pub returns : goal.returns
returns c =
    let s = c.self.inside in
    let before = unwired_of s.setup s.pmcw s.scsw s.up s.rest in
    ap (λ (p : Pmcw). unwired_of s.setup p s.scsw s.up s.rest) c.modify.ensures
    ∙ ap (λ (h : 0 < 8). with_pmcw before (record (disabled before.state.pmcw) { subclass_fits = h })) (le_prop (subclass-lt 0) (lit< tt))
    ∙ ap (λ (p : Unwired). with_pmcw p (disabled p.state.pmcw)) c.self.view_is
