use Rattle.std.proofs.Common.{◌≡◌, ◌∙◌, sym, ap, subst, ℕ, ◌<◌, ◌-◌, ◌/◌, ◌^◌, ◌∷◌}
use Rattle.std.specs.Int.RustNames.{bit_and}
use Rattle.chan_model.specs.PathSets.{members, paths_of_mask}
use Rattle.chan_model.proofs.PathOrder.{fewer, member-first}
use Rattle.chan_model.proofs.paths.EachPathIterator.next.Goals as goal

pub returns-clause-steps : goal.returns-clause-steps
returns-clause-steps c =
    let path = c.in_ok-path.path in
    let same : c.index.result ≡ path = c.index.ensures.value in
    sym c.self.view_is
    ∙ member-first c.self.inside.mask path c.self.invariant c.in_ok-path.ensures.same (subst (λ (p : ℕ). p < 8) same c.index.ensures.bound)
    ∙ ap (λ (p : ℕ). path ∷ members (paths_of_mask (bit_and c.self.inside.mask (255 - 128 / 2 ^ p)))) (sym same)

pub returns-clause-goes : goal.returns-clause-goes
returns-clause-goes c = record { on = λ finite. (tt, tt, fewer _ _ c.in_ok-path.path (returns-clause-steps c)); keeps = tt; rests = λ finite. tt }
