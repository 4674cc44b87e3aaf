use Rattle.std.proofs.Common.{◌≤◌, ◌<◌, ◌+◌, length}
use Rattle.io_step.proofs.Executions.{where-permitted}
use Rattle.io_step.proofs.operands.check_operand.Goals as goal

pub returns-clause-inside : goal.returns-clause-inside
returns-clause-inside g c =
    where-permitted c.check_operand.result c.map_err.result (0 < c.args.bytes → c.args.address + c.args.bytes ≤ length (g.M.MainStorage.contents c.args.storage.now).bytes)
    c.map_err.ensures.variant c.check_operand.ensures.inside
