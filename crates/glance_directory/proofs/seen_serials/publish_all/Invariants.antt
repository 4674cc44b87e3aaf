use Rattle.std.proofs.Common.{◌≡◌, length}
use Rattle.subsystem.specs.Keeping.{all_serials}
use Rattle.glance_directory.specs.Cells.{cells_of, shown}
use Rattle.glance_directory.proofs.Rewriting.{mix}
use Rattle.glance_directory.proofs.seen_serials.publish_all.Given as goal

abbrev pub invariant-loop-index : goal.invariant-loop-index
invariant-loop-index g l = (shown l.writers.items ≡ mix l.index (all_serials l.subsystem.state) (shown l.fn.writers.items)) × (cells_of l.writers.items ≡ cells_of l.fn.writers.items) × (length l.writers.items ≡ length l.fn.writers.items)
