use Rattle.std.proofs.Common.{arith}
use Rattle.storage_keys.specs.Storage.{cleared_storage}
use Rattle.chan_events.specs.Replies.{reply_of}
use Rattle.io_step.specs.GivenOperands.{with_reply}
use Rattle.lookup.proofs.Keeping.{fits-kept}
use Rattle.machine_model.specs.State.{lent}
use Rattle.channel_subsystem.specs.GivenSteps.{other_event}
use Rattle.channel_subsystem.proofs.stepping.by_value.keep_other_by_value.Goals as goal

pub returns-clause-fits : goal.returns-clause-fits
returns-clause-fits c =
    let storage = cleared_storage 16 in
    let done = c.perform_other_by_value-reply in
    let old = lent c.args.machine.now storage in
    let new = lent done.new.self (with_reply storage c.args.cpu 0 (reply_of done.result)) in
    fits-kept c.args.indices.now c.args.machine.now.subs done.new.self.subs
    (c.setups.ensures.stay old (other_event c.args.cpu c.args.instruction) (reply_of done.result) new
    (done.ensures.performs storage c.args.cpu 0 (c.is_somewhere.ensures 16 c.args.cpu (omega arith)))) c.requires.fits
