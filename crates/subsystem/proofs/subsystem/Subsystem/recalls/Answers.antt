use Rattle.std.proofs.Common.{subst}
use Rattle.run_laws.specs.Agreeing.{AllAgree}
use Rattle.run_laws.specs.Beginnings.{IsBegunOnce}
use Rattle.run_laws.specs.StateClaims.{IsClearedOnce}
use Rattle.machine_model.specs.State.{Past}
use Rattle.subsystem.specs.Headline.{HasHeld}
use Rattle.subsystem.proofs.subsystem.Subsystem.recalls.Goals as goal

pub returns-clause-cleared_once : goal.returns-clause-cleared_once
returns-clause-cleared_once g c =
    subst (λ (x : Past). IsClearedOnce x.state.sets x.history) c.self.view_is
    (c.every_history.ensures.cleared_once c.self.inside.history.entries c.self.inside.machine c.self.invariant.0)

pub returns-clause-begun_once : goal.returns-clause-begun_once
returns-clause-begun_once g c =
    subst (λ (x : Past). IsBegunOnce x.state.sets x.history) c.self.view_is
    (c.every_history.ensures.begun_once c.self.inside.history.entries c.self.inside.machine c.self.invariant.0)

pub returns-clause-agree : goal.returns-clause-agree
returns-clause-agree g c =
    subst (λ (x : Past). AllAgree x.state) c.self.view_is (c.every_history.ensures.agree c.self.inside.history.entries c.self.inside.machine c.self.invariant.0)

pub returns-clause-headline : goal.returns-clause-headline
returns-clause-headline g c =
    subst (λ (x : Past). HasHeld x.history x.state) c.self.view_is
    (c.every_history.ensures.headline c.self.inside.history.entries c.self.inside.machine c.self.invariant.0)
