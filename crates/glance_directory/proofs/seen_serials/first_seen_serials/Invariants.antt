use Rattle.std.proofs.Common.{◌≡◌, take}
use Rattle.subsystem.specs.Keeping.{all_serials}
use Rattle.glance_directory.proofs.seen_serials.first_seen_serials.Given as goal

abbrev pub invariant-loop-index : goal.invariant-loop-index
invariant-loop-index g l = record {
  seen_serials : l.seen_serials.items ≡ take l.index (all_serials l.subsystem.state);
  unrefused : g.S.Supply.refused l.supply ≡ g.S.Supply.refused l.fn.supply;
}
