use Rattle.run_laws.proofs.Shown.LosingRuns.{run-losses}
use Rattle.run_laws.proofs.halts_and_losses.losses.Goals as goal

pub returns : goal.returns
returns c = record { right = run-losses (record { walks = c.walks.ensures.each; sets = c.steps.ensures.sets; setups = c.setups.ensures.stay }) c.engines.ensures.one }
