use Rattle.std.proofs.Common.{◌∙◌, subst, List}
use Rattle.chan_events.specs.declared.event.Event.TheVariants as event
use Rattle.machine_model.specs.State.{State}
use Rattle.machine_model.specs.Steps.{Performs}
use Rattle.subchannel_model.specs.declared.state.Subchannel.{Subchannel}
use Rattle.chan_events.specs.Replies.{plain_outcome}
use Rattle.machine_model.specs.State.{lent}
use Rattle.machine.specs.contracts.machine.Machine.{the_view}
use Rattle.machine.proofs.Lifting.{other-performs, AreAlike}
use Rattle.machine.proofs.machine.Machine.execute_other.Goals as goal

pub returns-clause-performs : goal.returns-clause-performs
returns-clause-performs g c =
    let before = g.M.MainStorage.contents c.args.storage.now in
    let left = g.M.MainStorage.contents c.perform_other.new.storage in
    let old = lent (the_view c.self.inside) before in
    subst (λ (s : State). Performs (lent s before) (event.ExecuteOther c.args.cpu c.args.instruction) (plain_outcome c.perform_other.result)
    (record old { storage = left; requests = c.perform_other.new.pending; reports = c.perform_other.new.reports })) c.self.view_is
    (other-performs old c.args.cpu c.args.instruction c.engaged_for.result (plain_outcome c.perform_other.result) left c.perform_other.new.pending c.perform_other.new.reports
    (subst (λ (subs : List Subchannel). AreAlike subs c.engaged_for.result c.args.instruction) (c.of-served.ensures ∙ c.as_slice.ensures.value) c.engaged_for.ensures) c.perform_other.ensures.done)
