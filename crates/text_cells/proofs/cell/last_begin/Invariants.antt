use Rattle.std.proofs.Common.{◌≡◌, ◌≤◌, ◌+◌, take, length}
use Rattle.std.specs.List.{suffix_len}
use Rattle.text_cells.specs.Characters as spec
use Rattle.text_cells.proofs.cell.last_begin.Given as goal

abbrev pub invariant-loop-end : goal.invariant-loop-end
invariant-loop-end l = (l.end ≤ length l.text) × (l.end + suffix_len spec.goes_on l.text ≡ length l.text + suffix_len spec.goes_on (take l.end l.text))

abbrev pub decreases-loop-end : goal.decreases-loop-end
decreases-loop-end l = l.end
