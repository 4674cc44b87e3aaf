use Rattle.std.proofs.Common.{◌≡◌, ◌∙◌, ap, subst, sym, lit<, Bool}
use Rattle.std.specs.Prelude.{◌/◌, slice_index}
use Rattle.std.proofs.lemmas.Nat.{mod_below}
use Rattle.zbits.specs.Bits.{weight}
use Rattle.schib_block.specs.declared.pmcw.Pmcw.{Pmcw}
use Rattle.schib_block.specs.Modify.{modified}
use Rattle.schib_block.specs.Reading.{pmcw_of_words}
use Rattle.subchannel_model.specs.Modify.{placed}
use Rattle.subchannel_model.specs.Store.{pmcw_of}
use Rattle.functions.specs.Unwired.{Unwired, bare, unwired_of, with_state}
use Rattle.functions.proofs.Tied.{modified-tied}
use Rattle.functions.proofs.state.PackedState.modify.Goals as goal

pub invariant_of-self : goal.invariant_of-self
invariant_of-self c =
    let s = c.self.inside in
    let words = c.args.given.now in
    subst (λ (p : Pmcw). p ≡ pmcw_of (bare s.setup p s.scsw s.up s.rest)) (sym c.modify.ensures)
    (modified-tied s.setup s.pmcw s.scsw s.up s.rest c.is_kept-takes_sense.result (pmcw_of_words words) c.self.invariant
    (mod_below (slice_index words 2 / weight 7) 256 (lit< tt)) (mod_below (slice_index words 3 / weight 23) 256 (lit< tt)))

pub returns : goal.returns
returns c =
    let s = c.self.inside in
    let given = pmcw_of_words c.args.given.now in
    ap (λ (p : Pmcw). unwired_of s.setup p s.scsw s.up s.rest) (c.modify.ensures ∙ ap (λ (b : Bool). modified b s.pmcw given) c.is_kept-takes_sense.ensures)
    ∙ ap (λ (p : Unwired). with_state p (placed p.setup.concurrent_sense p.state given)) c.self.view_is
