use Rattle.std.proofs.Common.{◌≡◌, take}
use Rattle.glance_directory.proofs.directory.copies_of.Given as goal

abbrev pub invariant-loop-setup : goal.invariant-loop-setup
invariant-loop-setup g l = record {
  copies : l.copies.items ≡ take l.setup-index l.setups;
  unrefused : g.S.Supply.refused l.supply ≡ g.S.Supply.refused l.fn.supply;
}
