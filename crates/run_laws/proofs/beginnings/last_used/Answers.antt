use Rattle.run_laws.proofs.Shown.LastUsed.{run-last_used}
use Rattle.run_laws.proofs.beginnings.last_used.Goals as goal

pub returns : goal.returns
returns c = record { used = run-last_used (record { walks = c.walks.ensures.each; sets = c.steps.ensures.sets; setups = c.setups.ensures.stay }) }
