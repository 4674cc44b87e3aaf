use Rattle.std.proofs.Common.{◌≡◌, ◌∙◌, ap, subst, sym, ℕ, List, Bool}
use Rattle.schib_block.specs.declared.pmcw.Pmcw.{Pmcw}
use Rattle.chan_model.specs.PathSets.{mask_of_paths, paths_of_mask}
use Rattle.chan_model.specs.PathSets.{in_both}
use Rattle.subchannel_model.specs.Losing.{available_pmcw}
use Rattle.subchannel_model.specs.Store.{pmcw_of}
use Rattle.functions.proofs.Tied.{shown-tied}
use Rattle.functions.specs.Unwired.{Unwired, bare, unwired_of, with_pmcw}
use Rattle.functions.proofs.state.PackedState.show_path.Goals as goal

pub invariant_of-self : goal.invariant_of-self
invariant_of-self c =
    let s = c.self.inside in
    let now = c.set.new.self in
    let mask : c.mask.result ≡ mask_of_paths (in_both (paths_of_mask s.pmcw.installed) now) =
    c.mask.ensures.mask ∙ ap mask_of_paths (c.intersection.ensures ∙ ap (λ (set : List Bool). in_both set now) (c.of_mask-installed.ensures ∙ ap paths_of_mask c.installed.ensures)) in
    subst (λ (p : Pmcw). p ≡ pmcw_of (bare s.setup p s.scsw now s.rest)) (sym (c.set_available.ensures ∙ ap (λ (n : ℕ). record s.pmcw { available = n }) mask))
    (shown-tied s.setup s.pmcw s.scsw s.up now s.rest c.self.invariant)

pub returns : goal.returns
returns c =
    let s = c.self.inside in
    ap (λ (p : Pmcw). unwired_of s.setup p s.scsw c.set.new.self s.rest) c.set_available.ensures
    ∙ ap (λ (up : List Bool). unwired_of s.setup s.pmcw s.scsw up s.rest) c.set.ensures
    ∙ ap (λ (p : Unwired). with_pmcw p (available_pmcw p.state.pmcw c.args.path c.args.is_up)) c.self.view_is
