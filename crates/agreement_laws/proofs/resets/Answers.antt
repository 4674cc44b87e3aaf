use Rattle.agreement_laws.proofs.StepKeeps.{reset-ends}
use Rattle.agreement_laws.proofs.resets.Goals as goal

pub returns : goal.returns
returns c = reset-ends
