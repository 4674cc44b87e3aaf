use Rattle.std.proofs.Common.{rules, ◌≡◌, ◌∙◌, ap, sym, false}
use Rattle.std.specs.List.{list_any}
use Rattle.control_units.specs.Units.{is_refused_in}
use Rattle.control_units.proofs.Keeping.{none-informed, informed-kept}
use Rattle.control_units.proofs.sharing.inform_group.Goals as goal

pub returns-then-not-was_refused-clause-informed : goal.returns-then-not-was_refused-clause-informed
returns-then-not-was_refused-clause-informed c =
    let none : c.was_refused.result ≡ false = search rules in
    none-informed c.args.group c.args.members.now.items
    (ap (list_any (is_refused_in c.args.group)) (sym c.deref.ensures.value) ∙ (sym c.was_refused.ensures ∙ none))

pub returns-clause-groups : goal.returns-clause-groups
returns-clause-groups c =
    informed-kept c.args.members.now.items c.inform_all.new.members.items c.args.groups.now.items c.set_refused.new.groups.items c.args.group c.requires c.inform_all.ensures c.set_refused.ensures
