use Rattle.std.proofs.Common.{◌≡◌, subst}
use Rattle.std.specs.Prelude.{IfErr, MatchResult}
use Rattle.chan_events.specs.Events.{Event}
use Rattle.machine_model.specs.State.{State}
use Rattle.core_lock.specs.Entering.{MayRefuse, entered}
use Rattle.core_lock.specs.Outside.{IsExecuted}
use Rattle.core_lock.specs.Turns.{Executes, MayStand}
use Rattle.core_lock.proofs.guarded.Guarded.execute.Goals as goal

pub returns-clause-executes : goal.returns-clause-executes
returns-clause-executes g c =
    subst (λ (x : Event). Executes g.P.PathChoice.picks c.args.self.now c.args.seat.now x c.enter.result c.enter.new.self.value c.enter.new.seat.value) c.event_of-event.ensures c.enter.ensures.executes

pub returns-clause-executed : goal.returns-clause-executed
returns-clause-executed g c =
    subst (λ (x : Event). IsExecuted g.P.PathChoice.picks c.args.seat.now x c.enter.result c.enter.new.seat.value) c.event_of-event.ensures c.enter.ensures.executed

pub returns-clause-logged : goal.returns-clause-logged
returns-clause-logged g c =
    subst (λ (x : Event). MatchResult c.enter.result (λ reply. c.enter.new.seat.value ≡ entered c.args.seat.now.value x reply) (λ _. c.enter.new.seat.value ≡ c.args.seat.now.value)) c.event_of-event.ensures c.enter.ensures.logged

pub returns-clause-refusal : goal.returns-clause-refusal
returns-clause-refusal g c =
    subst (λ (x : Event). IfErr c.enter.result (λ f. (s : State) × MayStand c.args.seat.now.value.setup s × MayRefuse s x f)) c.event_of-event.ensures c.enter.ensures.refusal
