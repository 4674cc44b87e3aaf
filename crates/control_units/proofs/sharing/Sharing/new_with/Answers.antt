use Rattle.std.proofs.Common.{length}
use Rattle.control_units.proofs.Keeping.{idle-kept}
use Rattle.control_units.proofs.sharing.Sharing.new_with.Goals as goal

pub invariant_of-result : goal.invariant_of-result
invariant_of-result g c =
    idle-kept c.args.groups.now (length c.args.groups.now) c.in_ok-idle_members.field-0.items c.in_ok-idle_groups.field-0.items
    c.in_ok-idle_members.ensures.idle c.in_ok-idle_groups.ensures.idle
