use Rattle.std.proofs.Common.{◌≤◌, ap, sym, subst, arith}
use Rattle.data_move.specs.Moving.{Moving, IsAt}
use Rattle.data_move.proofs.PieceLemmas.{moved_found}
use Rattle.data_move.proofs.moving.Move.moved.Goals as goal

pub returns-clause-goes_on : goal.returns-clause-goes_on
returns-clause-goes_on c = λ r a.
    let less : c.args.count ≤ c.self.inside.left = omega (arith, ap (λ (m : Moving). m.left) c.self.view_is, c.requires) in
    moved_found r _ c.args.count c.from.result c.from.ensures (subst (λ (m : Moving). IsAt r m) (sym c.self.view_is) a) less
