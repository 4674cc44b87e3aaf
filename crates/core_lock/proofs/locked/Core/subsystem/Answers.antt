use Rattle.std.proofs.Common.{subst}
use Rattle.run_laws.specs.Agreeing.{AllAgree}
use Rattle.run_laws.specs.Beginnings.{IsBegunOnce}
use Rattle.machine_model.specs.Setups.{IsSetUp}
use Rattle.subsystem.specs.Headline.{HasHeld}
use Rattle.core_lock.specs.Seats.{LockedCore}
use Rattle.core_lock.proofs.locked.Core.subsystem.Goals as goal

pub returns-clause-set_up : goal.returns-clause-set_up
returns-clause-set_up g c = subst (λ (l : LockedCore). IsSetUp g.J.MachineBrand.setup l.value.state) c.self.view_is c.subsystem.ensures.set_up

pub returns-clause-begun_once : goal.returns-clause-begun_once
returns-clause-begun_once g c = subst (λ (l : LockedCore). IsBegunOnce l.value.state.sets l.value.history) c.self.view_is c.subsystem.ensures.begun_once

pub returns-clause-agree : goal.returns-clause-agree
returns-clause-agree g c = subst (λ (l : LockedCore). AllAgree l.value.state) c.self.view_is c.subsystem.ensures.agree

pub returns-clause-headline : goal.returns-clause-headline
returns-clause-headline g c = subst (λ (l : LockedCore). HasHeld l.value.history l.value.state) c.self.view_is c.subsystem.ensures.headline
