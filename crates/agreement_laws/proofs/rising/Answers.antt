use Rattle.agreement_laws.proofs.Above.{above}
use Rattle.agreement_laws.proofs.rising.Goals as goal

pub returns : goal.returns
returns c = above
