use Rattle.std.proofs.Common.{◌≡◌}
use Rattle.std.specs.Prelude.{replicate}
use Rattle.glance_directory.specs.Cells.{serials, shown}
use Rattle.core_lock.proofs.parts.writers_of.Given as goal

abbrev pub invariant-loop-index : goal.invariant-loop-index
invariant-loop-index g l = record {
  shown : shown l.writers.items ≡ replicate l._index (serials 0 0);
  unrefused : g.S.Supply.refused l.supply ≡ g.S.Supply.refused l.fn.supply;
}
