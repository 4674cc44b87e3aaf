use Rattle.std.proofs.Common.{◌≤◌, subst, sym, inr}
use Rattle.std.specs.Prelude.{OnOk}
use Rattle.agree.specs.Bounds.{IsWell}
use Rattle.agree.specs.Promises.{EndsByEvent, LeavesApart}
use Rattle.agree.specs.Rooms.{WorldAndRoom, IsFullFor}
use Rattle.agree.specs.State.{WorldState}
use Rattle.agree.specs.Results.{max_steps}
use Rattle.agree.proofs.Aparting.{given-leaves}
use Rattle.agree.proofs.Lasting.{given-well, given-ends, well-sound}
use Rattle.agree.proofs.Wanting.{given-spent, given-room}
use Rattle.agree.proofs.world.World.step_with.Goals as goal

pub invariant_of-self : goal.invariant_of-self
invariant_of-self g c = subst (λ (w : WorldState). IsWell w) (sym c.make_room.ensures.world) c.self.invariant

pub invariant_of-self-2 : goal.invariant_of-self-2
invariant_of-self-2 g c =
    given-well c.agreement.ensures.keeps c.resets.ensures c.make_room.new.self.world c.args.event.now c.step_parts.new.parts.world c.step_parts.result _
    (subst (λ (w : WorldState). IsWell w) (sym c.make_room.ensures.world) c.self.invariant) c.step_parts.ensures.gives

pub returns-clause-sound : goal.returns-clause-sound
returns-clause-sound g c = well-sound c.agreement.ensures.means c.step_parts.new.parts.world (invariant_of-self-2 g c)

pub returns-clause-exhausted : goal.returns-clause-exhausted
returns-clause-exhausted g c =
    given-spent c.make_room.new.self.world c.step_parts.new.parts.room c.args.event.now c.step_parts.new.parts.world c.step_parts.result
    c.step_parts.ensures.gives

pub returns-clause-memory : goal.returns-clause-memory
returns-clause-memory g c = λ is.
    inr (subst (λ (w : WorldAndRoom). max_steps ≤ w.world.steps) c.self.view_is
    (subst (λ (w : WorldState). max_steps ≤ w.steps) c.make_room.ensures.world
    (given-room c.make_room.new.self.world c.make_room.new.self.room c.step_parts.new.parts.room c.args.event.now c.step_parts.new.parts.world c.step_parts.result
    (subst (λ (w : WorldState). IsFullFor w c.make_room.new.self.room c.args.event.now → ⊥) (sym c.make_room.ensures.world) c.in-Ok.ensures.made)
    c.step_parts.ensures.room c.step_parts.ensures.gives is)))

pub returns-clause-ends : goal.returns-clause-ends
returns-clause-ends g c =
    subst (λ (w : WorldAndRoom). OnOk c.step_parts.result (EndsByEvent w.world c.args.event.now c.step_parts.new.parts.world)) c.self.view_is
    (subst (λ (w : WorldState). OnOk c.step_parts.result (EndsByEvent w c.args.event.now c.step_parts.new.parts.world)) c.make_room.ensures.world
    (given-ends c.agreement.ensures.keeps c.resets.ensures c.make_room.new.self.world c.args.event.now c.step_parts.new.parts.world c.step_parts.result _
    (subst (λ (w : WorldState). IsWell w) (sym c.make_room.ensures.world) c.self.invariant) c.step_parts.ensures.gives))

pub returns-clause-apart : goal.returns-clause-apart
returns-clause-apart g c =
    subst (λ (w : WorldAndRoom). OnOk c.step_parts.result (LeavesApart w.world c.args.event.now c.step_parts.new.parts.world)) c.self.view_is
    (subst (λ (w : WorldState). OnOk c.step_parts.result (LeavesApart w c.args.event.now c.step_parts.new.parts.world)) c.make_room.ensures.world
    (given-leaves c.make_room.new.self.world c.args.event.now c.step_parts.new.parts.world c.step_parts.result _ c.step_parts.ensures.gives))
