use Rattle.run_laws.proofs.Machine.Answered.{step-answers}
use Rattle.run_laws.proofs.answers.codes.Goals as goal

pub returns : goal.returns
returns c = record { table = step-answers }
