use Rattle.machine_model.specs.State.{opening_of}
use Rattle.run_laws.proofs.Machine.Growth.{AreLaws, laws-of}
use Rattle.run_laws.proofs.Machine.Prefixes.{run-first}
use Rattle.run_laws.proofs.Machine.RunAgrees.{run-agrees}
use Rattle.run_laws.proofs.states.agreements.Goals as goal

pub returns-clause-agree : goal.returns-clause-agree
returns-clause-agree c =
    let laws : AreLaws =
    laws-of c.walks.ensures.each c.agreement.ensures.keeps c.resets.ensures c.agreement.ensures.means c.passing.ensures.busy c.passing.ensures.stays in
    run-agrees c.agreement.ensures.opens laws

pub returns-clause-each : goal.returns-clause-each
returns-clause-each c = λ setup h later s lawful run.
    let laws : AreLaws =
    laws-of c.walks.ensures.each c.agreement.ensures.keeps c.resets.ensures c.agreement.ensures.means c.passing.ensures.busy c.passing.ensures.stays in
    let first = run-first (opening_of setup) h later s run in
    (first.0, first.1, run-agrees c.agreement.ensures.opens laws setup h first.0 lawful first.1)
