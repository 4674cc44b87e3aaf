use Rattle.run_laws.proofs.Machine.Sound.{AreNumbered, numbered-of}
use Rattle.run_laws.proofs.Machine.RunSound.{step-sets, step-later}
use Rattle.run_laws.proofs.states.steps.Goals as goal

pub returns-clause-sets : goal.returns-clause-sets
returns-clause-sets c = step-sets c.walks.ensures.each

pub returns-clause-subs : goal.returns-clause-subs
returns-clause-subs c =
    let law = c.command_numbers.ensures in
    let numbered : AreNumbered = numbered-of law.first law.next law.begun law.room law.given law.absorbed law.brought in
    step-later c.walks.ensures.each numbered
