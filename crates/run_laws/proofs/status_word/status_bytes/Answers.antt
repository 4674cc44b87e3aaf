use Rattle.run_laws.proofs.Shown.ByteRuns.{run-bytes}
use Rattle.run_laws.proofs.status_word.status_bytes.Goals as goal

pub returns : goal.returns
returns c = record { due = run-bytes (record { walks = c.walks.ensures.each; sets = c.steps.ensures.sets; setups = c.setups.ensures.stay }) }
