use Rattle.storage_keys.specs.Storage.{operand_at}
use Rattle.io_step.proofs.Executions.{permitted}
use Rattle.io_step.proofs.provided.start.Goals as goal

pub returns-clause-done : goal.returns-clause-done
returns-clause-done g c = λ word.
    let storage = g.M.MainStorage.contents c.args.storage.now in
    c.start.ensures.done storage c.args.cpu word c.args.address (permitted (operand_at storage c.args.cpu c.args.address 12 4) c.in_ok-orb.orb c.in_ok-orb.ensures)
