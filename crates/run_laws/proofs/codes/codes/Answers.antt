use Rattle.run_laws.proofs.Shown.Absent.{run-three}
use Rattle.run_laws.proofs.Shown.Enabling.{run-codes}
use Rattle.run_laws.proofs.codes.codes.Goals as goal

pub returns-clause-table : goal.returns-clause-table
returns-clause-table c = run-codes (record { walks = c.walks.ensures.each; sets = c.steps.ensures.sets; setups = c.setups.ensures.stay })

pub returns-clause-absent : goal.returns-clause-absent
returns-clause-absent c = run-three (record { walks = c.walks.ensures.each; sets = c.steps.ensures.sets; setups = c.setups.ensures.stay })
