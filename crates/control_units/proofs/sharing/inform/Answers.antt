use Rattle.control_units.specs.Units.{idle_member, member_informed}
use Rattle.control_units.proofs.MapInPlace.{one_more}
use Rattle.control_units.proofs.sharing.inform.Goals as goal

pub loop-member-preserved : goal.loop-member-preserved
loop-member-preserved c =
    one_more (member_informed c.args.group) c.args.members.now c.loop-member.members c.loop-member.member-index (idle_member 0) c.tell_one.new.member
    c.loop-member-test.true c.loop-member.invariant c.tell_one.ensures
