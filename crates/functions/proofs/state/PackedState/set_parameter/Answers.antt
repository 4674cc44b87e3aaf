use Rattle.std.proofs.Common.{◌∙◌, ap}
use Rattle.schib_block.specs.declared.pmcw.Pmcw.{Pmcw}
use Rattle.functions.specs.Unwired.{Unwired, unwired_of, with_pmcw}
use Rattle.functions.proofs.state.PackedState.set_parameter.Goals as goal

pub returns : goal.returns
returns c =
    let s = c.self.inside in
    ap (λ (p : Pmcw). unwired_of s.setup p s.scsw s.up s.rest) c.set_parameter.ensures
    ∙ ap (λ (p : Unwired). with_pmcw p (record p.state.pmcw { parameter = c.args.parameter })) c.self.view_is
