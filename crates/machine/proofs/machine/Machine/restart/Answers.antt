use Rattle.std.proofs.Common.{◌<◌, subst, Ok, length, arith}
use Rattle.std.proofs.lemmas.List.{length-set}
use Rattle.chan_events.specs.declared.event.Event.TheVariants as event
use Rattle.chan_events.specs.declared.reply.Reply.TheVariants as reply
use Rattle.machine_model.specs.State.{State, state_with_unit}
use Rattle.machine_model.specs.Steps.{Performs}
use Rattle.machine_model.specs.State.{lent}
use Rattle.machine.specs.contracts.machine.Machine.{the_view}
use Rattle.machine.proofs.Lifting.{restart-performs}
use Rattle.machine.proofs.machine.Machine.restart.Goals as goal

pub returns : goal.returns
returns c = λ storage.
    let old = lent (the_view c.self.inside) storage in
    let inside : c.args.number < length old.units = omega (arith, c.if-number-len.false, c.len.ensures) in
    subst (λ (s : State). Performs (lent s storage) (event.Restart c.args.number) (Ok reply.Done) (state_with_unit (record old { members = c.restart.new.sharing }) c.args.number c.restart.new.«unit»)) c.self.view_is
    (restart-performs old c.args.number c.index_mut-unit.result.now c.restart.new.«unit» c.restart.new.sharing inside c.index_mut-unit.ensures.value c.restart.ensures.members c.restart.ensures.state)

pub invariant_of-self : goal.invariant_of-self
invariant_of-self c = (c.self.invariant.0, omega (arith, length-set c.self.inside.units.items c.args.number c.restart.new.«unit», c.self.invariant.1))
