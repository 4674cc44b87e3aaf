use Rattle.std.proofs.Common.{◌≡◌, ◌∙◌, ap, subst, sym, None}
use Rattle.schib_block.specs.declared.pmcw.Pmcw.{Pmcw}
use Rattle.subchannel_model.specs.Store.{pmcw_of}
use Rattle.functions.specs.Unwired.{Unwired, bare, unwired_of, with_pmcw}
use Rattle.functions.proofs.Setting.{path-tied}
use Rattle.functions.proofs.state.PackedState.forget_last_used.Goals as goal

pub invariant_of-self : goal.invariant_of-self
invariant_of-self c =
    let s = c.self.inside in
    subst (λ (p : Pmcw). p ≡ pmcw_of (bare s.setup p s.scsw s.up s.rest)) (sym c.set_last_used.ensures)
    (path-tied s.setup s.pmcw s.scsw s.up s.rest None c.self.invariant tt)

pub returns : goal.returns
returns c =
    let s = c.self.inside in
    ap (λ (p : Pmcw). unwired_of s.setup p s.scsw s.up s.rest) c.set_last_used.ensures
    ∙ ap (λ (p : Unwired). with_pmcw p (record p.state.pmcw { last_used = None })) c.self.view_is
