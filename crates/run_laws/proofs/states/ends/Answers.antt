use Rattle.run_laws.proofs.Machine.Growth.{AreLaws, laws-of}
use Rattle.run_laws.proofs.Machine.Ended.{run-ends}
use Rattle.run_laws.proofs.states.ends.Goals as goal

pub returns : goal.returns
returns c =
    let laws : AreLaws =
    laws-of c.walks.ensures.each c.agreement.ensures.keeps c.resets.ensures c.agreement.ensures.means c.passing.ensures.busy c.passing.ensures.stays in
    record { by_reset = run-ends c.agreement.ensures.opens laws }
