use Rattle.std.proofs.Common.{subst}
use Rattle.std.specs.Prelude.{All}
use Rattle.machine_model.specs.State.{Past}
use Rattle.subsystem.specs.Keeping.{IsOrdered, all_serials}
use Rattle.subsystem.proofs.Rising.{past-ordered}
use Rattle.subsystem.proofs.subsystem.Subsystem.serials_at.Goals as goal

pub returns-clause-ordered : goal.returns-clause-ordered
returns-clause-ordered g c =
    subst (λ (p : Past). All IsOrdered (all_serials p.state)) c.self.view_is
    (past-ordered c.numbers.ensures.pending c.self.inside.history.entries c.self.inside.machine c.self.invariant.0)
