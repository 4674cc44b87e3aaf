use Rattle.std.proofs.Common.{◌≡◌, length, take}
use Rattle.channel_config.specs.Setup.{groups_from}
use Rattle.channel_config.proofs.config.groups_from.Given as goal

-- the groups of the units so far
abbrev pub invariant-loop-group : goal.invariant-loop-group
invariant-loop-group g l = record {
  groups : l.groups.items ≡ groups_from 0 (take l.group-index l.shared);
  count : length l.groups.items ≡ l.group-index;
  unrefused : g.S.Supply.refused l.supply ≡ g.S.Supply.refused l.fn.supply;
}
