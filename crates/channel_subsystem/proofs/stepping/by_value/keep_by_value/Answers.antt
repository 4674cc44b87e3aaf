use Rattle.std.proofs.Common.{arith}
use Rattle.chan_events.specs.Replies.{reply_of}
use Rattle.io_step.specs.GivenOperands.{storage_with, with_block}
use Rattle.lookup.proofs.Keeping.{fits-kept}
use Rattle.machine_model.specs.State.{lent}
use Rattle.subsystem.proofs.Pasts.{past-postable}
use Rattle.channel_subsystem.specs.GivenSteps.{given_event}
use Rattle.channel_subsystem.proofs.Numbers.{subs-count}
use Rattle.channel_subsystem.proofs.stepping.by_value.keep_by_value.Goals as goal

pub perform_by_value-requires-clause-subs : goal.perform_by_value-requires-clause-subs
perform_by_value-requires-clause-subs c = subs-count c.numbers.ensures.besides_stores (lent c.args.machine.now c.requires.run.0) c.requires.run.1

pub perform_by_value-requires-clause-postable : goal.perform_by_value-requires-clause-postable
perform_by_value-requires-clause-postable c = past-postable c.requires.run.1.0 (lent c.args.machine.now c.requires.run.0) c.requires.run.1.1

pub returns-in-Ok-clause-fits : goal.returns-in-Ok-clause-fits
returns-in-Ok-clause-fits c =
    let storage = storage_with c.args.instruction.now 16 in
    let answered = c.in-Ok.answered in
    let old = lent c.args.machine.now storage in
    let new = lent c.perform_by_value.new.self (with_block storage c.args.cpu 0 answered.block) in
    fits-kept c.args.indices.now c.args.machine.now.subs c.perform_by_value.new.self.subs
    (c.setups.ensures.stay old (given_event c.args.cpu c.args.subchannel c.args.instruction.now) (reply_of answered.reply) new
    (c.in-Ok.ensures.performs storage c.args.cpu 0 (c.is_somewhere.ensures 16 c.args.cpu (omega arith)))) c.requires.fits
