use Rattle.step_laws.proofs.Results.{step-other}
use Rattle.step_laws.proofs.refusals.Goals as goal

pub returns : goal.returns
returns c = record { memory = step-other }
