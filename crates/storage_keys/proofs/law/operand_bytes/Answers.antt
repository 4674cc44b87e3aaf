use Rattle.storage_keys.proofs.ByteLemmas.{operand_others, operand_placed}
use Rattle.storage_keys.proofs.OperandLemmas.{length-operand_stored}
use Rattle.storage_keys.proofs.law.operand_bytes.Goals as goal

pub returns-clause-size : goal.returns-clause-size
returns-clause-size c = length-operand_stored

pub returns-clause-placed : goal.returns-clause-placed
returns-clause-placed c = operand_placed

pub returns-clause-others : goal.returns-clause-others
returns-clause-others c = operand_others
