-- The area of a prefix is in storage, so the real addresses tell.
use Rattle.std.proofs.Common.{◌∙◌, sym}
use Rattle.storage_keys.proofs.OperandLemmas.{is_operand_inside-is}
use Rattle.storage_keys.proofs.operands.is_operand_inside.Goals as goal

pub returns-clause-operand : goal.returns-clause-operand
returns-clause-operand g c =
    c.is_inside.ensures.inside ∙ sym (is_operand_inside-is (g.M.MainStorage.contents c.args.storage.now) c.is_inside.ensures.sound c.args.cpu c.args.address c.args.count)
