use Rattle.run_laws.proofs.Shown.Made.{run-made}
use Rattle.run_laws.proofs.Shown.Pending.{run-pending}
use Rattle.run_laws.proofs.status_word.serials.Goals as goal

pub returns-clause-made : goal.returns-clause-made
returns-clause-made c = run-made (record { walks = c.walks.ensures.each; sets = c.steps.ensures.sets; setups = c.setups.ensures.stay })

pub returns-clause-pending : goal.returns-clause-pending
returns-clause-pending c =
    run-pending (record { walks = c.walks.ensures.each; sets = c.steps.ensures.sets; setups = c.setups.ensures.stay }) c.numbers.ensures.pending
