use Rattle.std.proofs.Common.{subst}
use Rattle.machine_model.specs.State.{lent}
use Rattle.channel_subsystem.specs.Hosting.{HasLed}
use Rattle.channel_subsystem.proofs.hosted.ChannelSubsystem.headline.Goals as goal

pub returns-clause-led : goal.returns-clause-led
returns-clause-led g c = subst HasLed c.self.view_is c.self.invariant.0

pub returns-clause-cleared_once : goal.returns-clause-cleared_once
returns-clause-cleared_once g c = λ h storage k. c.every_history.ensures.cleared_once h (lent c.args.self.now.machine storage) k.run

pub returns-clause-begun_once : goal.returns-clause-begun_once
returns-clause-begun_once g c = λ h storage k. c.every_history.ensures.begun_once h (lent c.args.self.now.machine storage) k.run

pub returns-clause-agree : goal.returns-clause-agree
returns-clause-agree g c = λ h storage k. c.every_history.ensures.agree h (lent c.args.self.now.machine storage) k.run

pub returns-clause-headline : goal.returns-clause-headline
returns-clause-headline g c = λ h storage k. c.every_history.ensures.headline h (lent c.args.self.now.machine storage) k.run
