use Rattle.agreement_laws.proofs.StepKeeps.{passed-on}
use Rattle.agreement_laws.proofs.passing.Goals as goal

pub returns-clause-stays : goal.returns-clause-stays
returns-clause-stays c = passed-on
