use Rattle.control_units.proofs.Keeping.{refused-kept, seen-at}
use Rattle.control_units.proofs.sharing.refuse.Goals as goal

pub returns-clause-groups : goal.returns-clause-groups
returns-clause-groups c =
    let at = seen-at c.deref.result.now c.args.members.now.items c.from.result c.args.«unit» c.in-Some.member.now c.deref.ensures.value c.from.ensures c.in-Some.ensures.lookup.3.0 c.in-Some.ensures.lookup.1 in
    refused-kept c.args.members.now.items c.mark_refused.new.members.items c.args.groups.now.items c.set_refused.new.groups.items c.args.«unit» c.in-Some.member.now
    at c.requires c.mark_refused.ensures c.set_refused.ensures
