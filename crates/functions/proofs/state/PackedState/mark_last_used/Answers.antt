use Rattle.std.proofs.Common.{◌≡◌, ◌∙◌, ap, subst, sym, ℕ, Option, Some}
use Rattle.schib_block.specs.declared.pmcw.Pmcw.{Pmcw}
use Rattle.chan_model.specs.PathSets.{mask_of_path}
use Rattle.subchannel_model.specs.Store.{pmcw_of}
use Rattle.functions.proofs.Tied.{used-is}
use Rattle.functions.specs.Unwired.{Unwired, bare, unwired_of, with_pmcw}
use Rattle.functions.proofs.Setting.{path-tied}
use Rattle.functions.proofs.state.PackedState.mark_last_used.Goals as goal

pub invariant_of-self : goal.invariant_of-self
invariant_of-self c =
    let s = c.self.inside in
    let is : c.set_last_used.new.self ≡ record s.pmcw { last_used = mask_of_path (Some c.args.path) } = c.set_last_used.ensures ∙ ap (λ (n : ℕ). record s.pmcw { last_used = n }) c.mask_of_path.ensures in
    subst (λ (p : Pmcw). p ≡ pmcw_of (bare s.setup p s.scsw s.up s.rest)) (sym is)
    (path-tied s.setup s.pmcw s.scsw s.up s.rest (Some c.args.path) c.self.invariant c.is_path.ensures)

pub returns : goal.returns
returns c =
    let s = c.self.inside in
    let is : c.set_last_used.new.self ≡ record s.pmcw { last_used = mask_of_path (Some c.args.path) } = c.set_last_used.ensures ∙ ap (λ (n : ℕ). record s.pmcw { last_used = n }) c.mask_of_path.ensures in
    let shown : (p : Unwired) (o : Option ℕ) → Unwired = λ p o. with_pmcw p (record p.state.pmcw { last_used = o }) in
    ap (λ (p : Pmcw). unwired_of s.setup p s.scsw s.up s.rest) is
    ∙ ap (shown (unwired_of s.setup s.pmcw s.scsw s.up s.rest)) (used-is c.args.path c.is_path.ensures)
    ∙ ap (λ (p : Unwired). shown p (Some c.args.path)) c.self.view_is
