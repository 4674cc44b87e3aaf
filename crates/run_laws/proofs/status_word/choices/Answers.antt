use Rattle.run_laws.proofs.Shown.Choosing.{run-choices}
use Rattle.run_laws.proofs.status_word.choices.Goals as goal

pub returns : goal.returns
returns c = record { reasons = run-choices (record { walks = c.walks.ensures.each; sets = c.steps.ensures.sets; setups = c.setups.ensures.stay }) }
