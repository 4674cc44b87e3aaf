use Rattle.std.proofs.Common.{subst, sym}
use Rattle.path_select.proofs.Cyclic.{first-right, IsRight}
use Rattle.path_select.proofs.first_from.Goals as goal

pub returns : goal.returns
returns c =
    let right = subst (IsRight c.args.usable.now c.args.first) (sym c.first_from.ensures) (first-right c.args.usable.now c.args.first c.requires) in
    record { law = right.0; next = right.1 }
