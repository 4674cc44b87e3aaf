use Rattle.storage_keys.specs.Storage.{operand_at}
use Rattle.io_step.proofs.Executions.{permitted}
use Rattle.io_step.proofs.absent.start.Goals as goal

pub returns : goal.returns
returns g c = λ word.
    let storage = g.M.MainStorage.contents c.args.storage.now in
    c.start_by_value.ensures storage c.args.cpu word c.args.address (permitted (operand_at storage c.args.cpu c.args.address 12 4) c.in_ok-orb.orb c.in_ok-orb.ensures)
