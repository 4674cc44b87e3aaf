use Rattle.run_laws.proofs.Shown.LossRuns.{run-losses-shown}
use Rattle.run_laws.proofs.status_word.losses.Goals as goal

pub returns : goal.returns
returns c = record { silent = run-losses-shown (record { walks = c.walks.ensures.each; sets = c.steps.ensures.sets; setups = c.setups.ensures.stay }) }
