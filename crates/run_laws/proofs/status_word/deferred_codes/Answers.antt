use Rattle.run_laws.proofs.Shown.Deferring.{run-deferred}
use Rattle.run_laws.proofs.status_word.deferred_codes.Goals as goal

pub returns : goal.returns
returns c = record { due = run-deferred (record { walks = c.walks.ensures.each; sets = c.steps.ensures.sets; setups = c.setups.ensures.stay }) }
