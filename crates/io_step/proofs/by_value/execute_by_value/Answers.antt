use Rattle.io_step.proofs.by_value.execute_by_value.Goals as goal

pub returns-in-Stsch-clause-done : goal.returns-in-Stsch-clause-done
returns-in-Stsch-clause-done c = rw c.in-Stsch.is c.store.ensures.done

pub returns-in-Tsch-clause-done : goal.returns-in-Tsch-clause-done
returns-in-Tsch-clause-done c = rw c.in-Tsch.is c.test.ensures.done
