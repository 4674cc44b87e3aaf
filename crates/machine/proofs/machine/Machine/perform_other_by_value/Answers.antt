use Rattle.std.proofs.Common.{◌∙◌, subst, List, Ok}
use Rattle.chan_events.specs.declared.event.Event.TheVariants as event
use Rattle.chan_events.specs.Replies.{reply_of}
use Rattle.io_step.specs.GivenOperands.{other_at, with_reply}
use Rattle.machine_model.specs.State.{State}
use Rattle.machine_model.specs.Steps.{Performs}
use Rattle.subchannel_model.specs.declared.state.Subchannel.{Subchannel}
use Rattle.machine_model.specs.State.{lent}
use Rattle.machine.specs.contracts.machine.Machine.{the_view}
use Rattle.machine.proofs.GivenSteps.{given-other}
use Rattle.machine.proofs.Lifting.{AreAlike}
use Rattle.machine.proofs.machine.Machine.perform_other_by_value.Goals as goal

pub returns-clause-performs : goal.returns-clause-performs
returns-clause-performs c = λ storage cpu address has.
    let old = the_view c.self.inside in
    let i = c.args.instruction in
    let r = reply_of c.perform_other_by_value-reply.result in
    let engaged = c.engaged_by_value-engaged.result in
    subst (λ (s : State). Performs (lent s storage) (event.ExecuteOther cpu (other_at i address)) (Ok r)
    (record old { storage = with_reply storage cpu address r; requests = c.perform_other_by_value-reply.new.pending; reports = c.perform_other_by_value-reply.new.reports })) c.self.view_is
    (given-other old storage cpu address i engaged r c.perform_other_by_value-reply.new.pending c.perform_other_by_value-reply.new.reports
    (subst (λ (subs : List Subchannel). AreAlike subs engaged (other_at i address)) (c.of-served.ensures ∙ c.as_slice.ensures.value) (λ lent up n. c.engaged_by_value-engaged.ensures lent up n address))
    (c.perform_other_by_value-reply.ensures storage old.up cpu address has))
