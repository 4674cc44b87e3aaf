use Rattle.run_laws.proofs.Shown.Following.{run-follows}
use Rattle.run_laws.proofs.status_word.functions.Goals as goal

pub returns : goal.returns
returns c = record { follow = run-follows (record { walks = c.walks.ensures.each; sets = c.steps.ensures.sets; setups = c.setups.ensures.stay }) }
