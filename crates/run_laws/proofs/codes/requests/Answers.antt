use Rattle.run_laws.proofs.Shown.RequestRuns.{run-asked-for, run-given-once}
use Rattle.run_laws.proofs.Shown.Lowest.{run-lowest-first}
use Rattle.run_laws.proofs.Shown.Oldest.{run-oldest-first}
use Rattle.run_laws.proofs.codes.requests.Goals as goal

pub returns-clause-asked : goal.returns-clause-asked
returns-clause-asked c = run-asked-for (record { walks = c.walks.ensures.each; sets = c.steps.ensures.sets; setups = c.setups.ensures.stay }) c.codes.ensures.table

pub returns-clause-once : goal.returns-clause-once
returns-clause-once c = run-given-once (record { walks = c.walks.ensures.each; sets = c.steps.ensures.sets; setups = c.setups.ensures.stay }) c.codes.ensures.table

pub returns-clause-lowest : goal.returns-clause-lowest
returns-clause-lowest c = run-lowest-first c.codes.ensures.table

pub returns-clause-oldest : goal.returns-clause-oldest
returns-clause-oldest c = run-oldest-first (record { walks = c.walks.ensures.each; sets = c.steps.ensures.sets; setups = c.setups.ensures.stay }) c.codes.ensures.table
