use Rattle.std.proofs.Common.{ap, sym, Result}
use Rattle.storage_keys.specs.declared.StorageFault.{StorageFault}
use Rattle.chan_events.specs.Replies.{reply_of}
use Rattle.io_step.specs.GivenOperands.{with_block}
use Rattle.io_step.specs.Operands.{from_storage}
use Rattle.io_step.proofs.Executions.{tests-sub}
use Rattle.io_step.proofs.by_value.test.Goals as goal

pub returns-clause-done : goal.returns-clause-done
returns-clause-done c = λ storage cpu word address has s index there.
    tests-sub s storage (with_block storage cpu address c.irb_to_store-block.result) cpu address index c.args.sub.now c.test_sub-reply.new.sub tt (reply_of c.test_sub-reply.result)
    (sym (ap (λ (x : Result (Unit {0}) StorageFault). from_storage x) has)) (c.irb_to_store-block.ensures.stored s storage cpu address) c.test_sub-reply.ensures.left
