use Rattle.run_laws.proofs.Machine.AllCleared.{clears-by-cause}
use Rattle.run_laws.proofs.answers.clearings.Goals as goal

pub returns : goal.returns
returns c = record { cause = λ s e r new w. clears-by-cause s e r new (c.walks.ensures.each s e r new w) w }
