use Rattle.std.proofs.Common.{◌≡◌, ◌<◌, ap, sym, ◌∙◌, subst, Some, length, arith}
use Rattle.std.proofs.lemmas.List.{length-set}
use Rattle.chan_events.specs.declared.event.Event.TheVariants as event
use Rattle.machine_model.specs.State.{State, with_sub, state_with_unit}
use Rattle.machine_model.specs.ActSteps.{side_of_act}
use Rattle.subchannel_model.specs.Indices.{reached_in}
use Rattle.machine_model.specs.Steps.{Performs}
use Rattle.chan_events.specs.Replies.{plain_outcome}
use Rattle.machine_model.specs.State.{lent}
use Rattle.machine.specs.contracts.machine.Machine.{the_view}
use Rattle.machine.proofs.Lifting.{at_seen, act-performs, gets}
use Rattle.machine.proofs.Serving.{serves-still}
use Rattle.machine.proofs.machine.Machine.act.Goals as goal

pub returns : goal.returns
returns c = λ storage.
    let old = lent (the_view c.self.inside) storage in
    let subs : c.as_slice-2.result.now ≡ old.subs = c.as_slice-2.ensures.value in
    let of : side_of_act c.index.result.now c.args.act ≡ Some c.in-Some.side = sym c.side_of_act.ensures ∙ c.in-Some.is in
    let at : reached_in c.args.number c.in-Some.side old.subs ≡ Some c.in-Some-reached_in.index =
    ap (reached_in c.args.number c.in-Some.side) (sym subs) ∙ (sym c.reached_in.ensures.index ∙ c.in-Some-reached_in.is) in
    let stands = at_seen old.subs c.as_slice-2.result.now c.in-Some-reached_in.index c.index_mut-sub.result.now (sym subs) c.in-Some-reached_in.ensures.bound c.index_mut-sub.ensures.value in
    let inside : c.args.number < length old.units = omega (arith, c.if-number-len.false, c.len.ensures) in
    subst (λ (s : State). Performs (lent s storage) (event.Act c.args.number c.args.act) (plain_outcome c.act_sub.result)
    (state_with_unit (with_sub old c.in-Some-reached_in.index c.act_sub.new.sub) c.args.number c.act_sub.new.«unit»)) c.self.view_is
    (act-performs old c.args.number c.in-Some-reached_in.index c.args.act c.in-Some.side c.index_mut-sub.result.now c.act_sub.new.sub c.index.result.now
    c.index_mut-unit.result.now c.act_sub.new.«unit» (plain_outcome c.act_sub.result) inside c.index.ensures of at stands c.index_mut-unit.ensures.value c.act_sub.ensures.state c.act_sub.ensures.gives)

pub invariant_of-self : goal.invariant_of-self
invariant_of-self c =
    let subs = c.self.inside.subs.items in
    let stands = at_seen subs c.as_slice-2.result.now c.in-Some-reached_in.index c.index_mut-sub.result.now (sym c.as_slice-2.ensures.value) c.in-Some-reached_in.ensures.bound c.index_mut-sub.ensures.value in (
      serves-still c.self.inside.engines subs c.in-Some-reached_in.index c.index_mut-sub.result.now c.act_sub.new.sub (gets subs c.in-Some-reached_in.index c.index_mut-sub.result.now stands) c.self.invariant.0 c.act_sub.ensures.engaged,
      omega (arith, length-set c.self.inside.units.items c.args.number c.act_sub.new.«unit», c.self.invariant.1),
    )
