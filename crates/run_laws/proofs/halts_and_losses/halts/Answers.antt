use Rattle.run_laws.proofs.Shown.HaltRuns.{run-halts}
use Rattle.run_laws.proofs.halts_and_losses.halts.Goals as goal

pub returns : goal.returns
returns c = record { done = run-halts (record { walks = c.walks.ensures.each; sets = c.steps.ensures.sets; setups = c.setups.ensures.stay }) c.engines.ensures.one }
