use Rattle.std.proofs.Common.{subst}
use Rattle.agree.specs.Rooms.{WorldAndRoom}
use Rattle.agree.specs.Promises.{AreSound, EachEnds}
use Rattle.agree.specs.Results.{worlds_after}
use Rattle.agree.proofs.Aparting.{each-leaves}
use Rattle.agree.proofs.Lasting.{list-well, list-ends, well-sound}
use Rattle.agree.proofs.world.World.is_sound.Goals as goal

pub returns-clause-later : goal.returns-clause-later
returns-clause-later c events =
    subst (λ (w : WorldAndRoom). AreSound (worlds_after w.world events)) c.self.view_is
    (well-sound c.agreement.ensures.means (worlds_after c.self.inside.parts.world events)
    (list-well c.agreement.ensures.keeps c.resets.ensures c.self.inside.parts.world events c.self.invariant))

pub returns-clause-ends : goal.returns-clause-ends
returns-clause-ends c events =
    subst (λ (w : WorldAndRoom). EachEnds w.world events) c.self.view_is
    (list-ends c.agreement.ensures.keeps c.resets.ensures c.self.inside.parts.world events c.self.invariant)

pub returns-clause-apart : goal.returns-clause-apart
returns-clause-apart c events = each-leaves _ events
