use Rattle.agreement_laws.proofs.StepKeeps.{step-kept}
use Rattle.agreement_laws.proofs.agreement.Goals as goal

pub returns-clause-keeps : goal.returns-clause-keeps
returns-clause-keeps c = step-kept
