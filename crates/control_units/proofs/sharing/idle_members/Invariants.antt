use Rattle.std.proofs.Common.{◌≡◌, take, map}
use Rattle.control_units.specs.Units.{idle_member}
use Rattle.control_units.proofs.sharing.idle_members.Given as goal

-- the units so far are idle
abbrev pub invariant-loop-group : goal.invariant-loop-group
invariant-loop-group g l = record {
  idle : l.members.items ≡ map idle_member (take l.group-index l.groups);
  unrefused : g.S.Supply.refused l.supply ≡ g.S.Supply.refused l.fn.supply;
}
