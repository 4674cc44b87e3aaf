use Rattle.run_laws.proofs.Machine.Remembering.{step-first}
use Rattle.run_laws.proofs.engines.returns.Goals as goal

pub returns : goal.returns
returns c = record { first = λ setup h s run e r new lawful step. step-first c.walks.ensures.each setup h s run e r new step }
