use Rattle.std.proofs.Common.{◌≡◌, take}
use Rattle.glance_directory.proofs.seen_serials.watch.Given as goal

abbrev pub invariant-loop-index : goal.invariant-loop-index
invariant-loop-index g l = record {
  same : l.writers.items ≡ l.fn.writers.items;
  readers : l.readers.items ≡ take l.index l.fn.writers.items;
  unrefused : g.S.Supply.refused l.supply ≡ g.S.Supply.refused l.fn.supply;
}
