use Rattle.step_laws.proofs.Walk.{step-walks}
use Rattle.step_laws.proofs.walks.Goals as goal

pub returns : goal.returns
returns c = record { each = step-walks }
