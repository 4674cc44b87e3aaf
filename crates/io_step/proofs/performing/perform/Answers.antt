use Rattle.io_step.proofs.performing.perform.Goals as goal

pub returns-in-Some-clause-done : goal.returns-in-Some-clause-done
returns-in-Some-clause-done g c = rw c.in-Some.is c.perform_provided.ensures.done
