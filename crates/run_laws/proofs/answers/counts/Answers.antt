use Rattle.run_laws.proofs.Machine.Counting.{counts-by-status}
use Rattle.run_laws.proofs.answers.counts.Goals as goal

pub returns : goal.returns
returns c = record { status = λ s e r new w. counts-by-status s e r new (c.walks.ensures.each s e r new w) }
