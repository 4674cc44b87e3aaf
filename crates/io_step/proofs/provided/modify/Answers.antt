use Rattle.storage_keys.specs.Storage.{operand_at}
use Rattle.io_step.proofs.Executions.{permitted}
use Rattle.io_step.proofs.provided.modify.Goals as goal

pub returns-clause-done : goal.returns-clause-done
returns-clause-done g c = λ word.
    let storage = g.M.MainStorage.contents c.args.storage.now in
    c.modify.ensures.done storage c.args.cpu word c.args.address (permitted (operand_at storage c.args.cpu c.args.address 52 4) c.in_ok-schib.schib c.in_ok-schib.ensures)
