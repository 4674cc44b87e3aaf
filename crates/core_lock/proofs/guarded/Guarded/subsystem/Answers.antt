use Rattle.std.proofs.Common.{subst}
use Rattle.run_laws.specs.Agreeing.{AllAgree}
use Rattle.run_laws.specs.Beginnings.{IsBegunOnce}
use Rattle.machine_model.specs.Setups.{IsSetUp}
use Rattle.subsystem.specs.Headline.{HasHeld}
use Rattle.core_lock.specs.Seats.{GuardedCore}
use Rattle.core_lock.proofs.guarded.Guarded.subsystem.Goals as goal

pub returns-clause-set_up : goal.returns-clause-set_up
returns-clause-set_up g c = subst (λ (l : GuardedCore). IsSetUp g.J.MachineBrand.setup l.value.state) c.self.view_is c.self.invariant.set_up

pub returns-clause-begun_once : goal.returns-clause-begun_once
returns-clause-begun_once g c = subst (λ (l : GuardedCore). IsBegunOnce l.value.state.sets l.value.history) c.self.view_is c.history.ensures.begun_once

pub returns-clause-agree : goal.returns-clause-agree
returns-clause-agree g c = subst (λ (l : GuardedCore). AllAgree l.value.state) c.self.view_is c.history.ensures.agree

pub returns-clause-headline : goal.returns-clause-headline
returns-clause-headline g c = subst (λ (l : GuardedCore). HasHeld l.value.history l.value.state) c.self.view_is c.history.ensures.headline
