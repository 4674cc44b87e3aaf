use Rattle.control_units.proofs.Keeping.{begun-kept, seen-at}
use Rattle.control_units.proofs.sharing.set_begun.Goals as goal

pub returns-clause-groups : goal.returns-clause-groups
returns-clause-groups c =
    let at = seen-at c.deref.result.now c.args.members.now.items c.from.result c.args.«unit» c.in-Some.member.now c.deref.ensures.value c.from.ensures c.in-Some.ensures.lookup.3.0 c.in-Some.ensures.lookup.1 in
    begun-kept c.args.begun c.args.members.now.items c.mark_begun.new.members.items c.args.groups.now.items c.change_begun.new.groups.items c.args.«unit» c.in-Some.member.now
    at c.requires c.mark_begun.ensures c.change_begun.ensures
