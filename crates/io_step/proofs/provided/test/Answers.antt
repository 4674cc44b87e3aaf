use Rattle.std.proofs.Common.{subst, sym, Ok}
use Rattle.storage_keys.specs.Storage.{Contents, operand_check}
use Rattle.chan_events.specs.Replies.{reply_of}
use Rattle.chan_events.specs.declared.event.Instruction.TheVariants as instruction
use Rattle.io_step.specs.Executing.{Executed}
use Rattle.io_step.proofs.Executions.{permitted}
use Rattle.io_step.proofs.provided.test.Goals as goal

pub returns-clause-done : goal.returns-clause-done
returns-clause-done g c = λ word.
    let before = g.M.MainStorage.contents c.args.storage.now in
    subst (λ (x : Contents). Executed before c.args.sub.now c.args.cpu (instruction.Tsch word c.args.address) (Ok (reply_of c.test-answered.result.reply)) x c.test-answered.new.sub)
    (sym c.store_block.ensures.stored)
    (c.test-answered.ensures.done before c.args.cpu word c.args.address (permitted (operand_check before c.args.cpu c.args.address 64 4) tt c.in_ok-check_operand.ensures.checked))
