use Rattle.run_laws.proofs.Machine.Reasons.{resets-by-cause, stays-reset}
use Rattle.run_laws.proofs.answers.resets.Goals as goal

pub returns-clause-cause : goal.returns-clause-cause
returns-clause-cause c = λ s e r new w. resets-by-cause s e r new (c.walks.ensures.each s e r new w)

pub returns-clause-stays : goal.returns-clause-stays
returns-clause-stays c = λ s e r new w. stays-reset s e r new (c.walks.ensures.each s e r new w)
