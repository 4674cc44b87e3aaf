use Rattle.control_units.proofs.Keeping.{owed-is, over-is, seen-at}
use Rattle.control_units.proofs.sharing.end.Goals as goal

pub returns-clause-owed : goal.returns-clause-owed
returns-clause-owed c =
    let at = seen-at c.deref.result.now c.args.members.now.items c.from.result c.args.«unit» c.in-Some.member.now c.deref.ensures.value c.from.ensures c.in-Some.ensures.lookup.3.0 c.in-Some.ensures.lookup.1 in
    owed-is c.args.members.now.items c.set_begun.new.members.items c.args.«unit» c.in-Some.member.now c.inform_group.result
    at c.set_begun.ensures.begun c.inform_group.ensures.owed

pub returns-clause-over : goal.returns-clause-over
returns-clause-over c =
    let at = seen-at c.deref.result.now c.args.members.now.items c.from.result c.args.«unit» c.in-Some.member.now c.deref.ensures.value c.from.ensures c.in-Some.ensures.lookup.3.0 c.in-Some.ensures.lookup.1 in
    over-is c.args.members.now.items c.set_begun.new.members.items c.inform_group.new.members.items c.args.«unit» c.in-Some.member.now
    at c.set_begun.ensures.begun c.inform_group.ensures.informed
