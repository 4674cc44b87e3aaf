use Rattle.std.proofs.Common.{◌∙◌, sym, ap, ℕ, List, Bool}
use Rattle.std.specs.Int.Count.{count_leading_zeros}
use Rattle.chan_model.specs.PathSets.{cyclic_path}
use Rattle.chan_model.proofs.PathOrder.{all-is, first-is, later-is, path_at, path-made}
use Rattle.chan_model.proofs.paths.PathSet.first_from.Goals as goal

pub returns-then-later-ne0 : goal.returns-then-later-ne0
returns-then-later-ne0 c =
    path-made c.new.result _ c.new.ensures.found c.new.ensures.same
    ∙ ap (λ (m : ℕ). path_at (count_leading_zeros 8 m)) (sym (later-is c.self.inside.mask c.args.first c.if-later-ne0.true))
    ∙ first-is c.self.inside.mask c.args.first c.self.invariant c.requires
    ∙ ap (λ (set : List Bool). cyclic_path set 8 c.args.first) c.self.view_is

pub returns-else-later-ne0 : goal.returns-else-later-ne0
returns-else-later-ne0 c =
    path-made c.new-else-later-ne0.result _ c.new-else-later-ne0.ensures.found c.new-else-later-ne0.ensures.same
    ∙ ap (λ (m : ℕ). path_at (count_leading_zeros 8 m)) (sym (all-is c.self.inside.mask c.args.first c.if-later-ne0.false))
    ∙ first-is c.self.inside.mask c.args.first c.self.invariant c.requires
    ∙ ap (λ (set : List Bool). cyclic_path set 8 c.args.first) c.self.view_is
