use Rattle.std.proofs.Common.{◌≡◌, ◌<◌, ◌∙◌, ℕ, ap, subst, sym, length, slice_index_or, arith}
use Rattle.std.proofs.lemmas.List.{length-set}
use Rattle.chan_events.specs.declared.event.Event.TheVariants as event
use Rattle.machine_model.specs.State.{State, with_sub, state_with_unit}
use Rattle.machine_model.specs.Steps.{Performs}
use Rattle.event_log.specs.Logs.{answer_in}
use Rattle.machine_model.specs.State.{lent}
use Rattle.machine.specs.contracts.machine.Machine.{the_view}
use Rattle.machine.proofs.Lifting.{at_seen, named_at, down-performs-at, gets}
use Rattle.machine.proofs.Serving.{serves-still}
use Rattle.machine.proofs.machine.Machine.down.Goals as goal

pub returns-clause-performs : goal.returns-clause-performs
returns-clause-performs c = λ storage.
    let old = lent (the_view c.self.inside) storage in
    let k = c.index.result.now.setup.«unit» in
    let at = named_at (the_view c.self.inside) c.args.self.now c.args.word c.in-Some.index c.index_of.result c.self.view_is c.index_of.ensures.index c.in-Some.is in
    let stands = at_seen old.subs c.args.self.now.subs c.in-Some.index c.index_mut-sub.result.now (ap (λ (s : State). s.subs) c.self.view_is) c.in-Some.ensures.bound c.index_mut-sub.ensures.value in
    let is : c.from-number.result ≡ k = c.from-number.ensures ∙ c.reached_unit.ensures in
    let u = c.index_mut-unit.result.now in
    let inside : k < length old.units = omega (arith, c.if-number-len.false, c.len.ensures, is) in
    let seen : u ≡ slice_index_or old.units k u = subst (λ (m : ℕ). u ≡ slice_index_or old.units m u) is c.index_mut-unit.ensures.value in
    subst (λ (s : State). Performs (lent s storage) (event.Down c.args.word c.args.path) (answer_in c.down_sub.result c.down_sub.new.log)
    (state_with_unit (with_sub (record old { members = c.down_sub.new.sharing }) c.in-Some.index c.down_sub.new.sub) c.from-number.result c.down_sub.new.«unit»)) c.self.view_is
    (subst (λ (m : ℕ). Performs old (event.Down c.args.word c.args.path) (answer_in c.down_sub.result c.down_sub.new.log)
    (state_with_unit (with_sub (record old { members = c.down_sub.new.sharing }) c.in-Some.index c.down_sub.new.sub) m c.down_sub.new.«unit»)) (sym is)
    (down-performs-at old c.args.word c.args.path c.in-Some.index c.index.result.now c.index_mut-sub.result.now c.down_sub.new.sub u c.down_sub.new.«unit»
    c.down_sub.new.sharing (answer_in c.down_sub.result c.down_sub.new.log) c.index.ensures at stands inside seen c.down_sub.ensures.state c.down_sub.ensures.gives))

pub invariant_of-self : goal.invariant_of-self
invariant_of-self c =
    let subs = c.self.inside.subs.items in
    let stands = at_seen subs c.args.self.now.subs c.in-Some.index c.index_mut-sub.result.now (ap (λ (s : State). s.subs) c.self.view_is) c.in-Some.ensures.bound c.index_mut-sub.ensures.value in (
      serves-still c.self.inside.engines subs c.in-Some.index c.index_mut-sub.result.now c.down_sub.new.sub (gets subs c.in-Some.index c.index_mut-sub.result.now stands) c.self.invariant.0 c.down_sub.ensures.engaged,
      omega (arith, length-set c.self.inside.units.items c.from-number.result c.down_sub.new.«unit», c.self.invariant.1),
    )
