use Rattle.std.proofs.Common.{◌≡◌, ◌<◌, ap, sym, ◌∙◌, subst, Some, length, arith}
use Rattle.std.proofs.lemmas.List.{length-set}
use Rattle.chan_events.specs.declared.event.Event.TheVariants as event
use Rattle.machine_model.specs.State.{State, with_sub, state_with_unit}
use Rattle.subchannel_model.specs.Indices.{reached_in}
use Rattle.machine_model.specs.Steps.{Performs}
use Rattle.chan_events.specs.Replies.{plain_outcome}
use Rattle.machine_model.specs.State.{lent}
use Rattle.machine.specs.contracts.machine.Machine.{the_view}
use Rattle.machine.proofs.Lifting.{at_seen, report-performs, gets}
use Rattle.machine.proofs.Serving.{serves-still}
use Rattle.machine.proofs.machine.Machine.report.Goals as goal

pub returns : goal.returns
returns c = λ storage.
    let old = lent (the_view c.self.inside) storage in
    let subs : c.as_slice.result.now ≡ old.subs = c.as_slice.ensures.value in
    let at : reached_in c.args.number c.args.report.now.side old.subs ≡ Some c.in-Some.index =
    ap (reached_in c.args.number c.args.report.now.side) (sym subs) ∙ (sym c.reached_in.ensures.index ∙ c.in-Some.is) in
    let stands = at_seen old.subs c.as_slice.result.now c.in-Some.index c.index_mut-sub.result.now (sym subs) c.in-Some.ensures.bound c.index_mut-sub.ensures.value in
    let inside : c.args.number < length old.units = omega (arith, c.if-number-len.false, c.len.ensures) in
    subst (λ (s : State). Performs (lent s storage) (event.Report c.args.number c.args.report.now) (plain_outcome c.report_sub.result)
    (state_with_unit (with_sub old c.in-Some.index c.report_sub.new.sub) c.args.number c.report_sub.new.«unit»)) c.self.view_is
    (report-performs old c.args.number c.in-Some.index c.args.report.now c.index_mut-sub.result.now c.report_sub.new.sub
    c.index_mut-unit.result.now c.report_sub.new.«unit» (plain_outcome c.report_sub.result) at stands inside c.index_mut-unit.ensures.value c.report_sub.ensures.state c.report_sub.ensures.gives)

pub invariant_of-self : goal.invariant_of-self
invariant_of-self c =
    let subs = c.self.inside.subs.items in
    let stands = at_seen subs c.as_slice.result.now c.in-Some.index c.index_mut-sub.result.now (sym c.as_slice.ensures.value) c.in-Some.ensures.bound c.index_mut-sub.ensures.value in (
      serves-still c.self.inside.engines subs c.in-Some.index c.index_mut-sub.result.now c.report_sub.new.sub (gets subs c.in-Some.index c.index_mut-sub.result.now stands) c.self.invariant.0 c.report_sub.ensures.engaged,
      omega (arith, length-set c.self.inside.units.items c.args.number c.report_sub.new.«unit», c.self.invariant.1),
    )
