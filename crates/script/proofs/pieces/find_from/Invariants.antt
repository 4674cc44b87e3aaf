use Rattle.std.proofs.Common.{◌≡◌, ◌≤◌, ◌<◌, ◌-◌, ℕ, length, get_or}
use Rattle.script.proofs.pieces.find_from.Given as goal

abbrev pub invariant-loop-next : goal.invariant-loop-next
invariant-loop-next l = (l.index ≤ l.next) × (l.next ≤ length l.bytes) × ((k : ℕ) → l.index ≤ k → k < l.next → get_or l.bytes k 0 ≡ l.byte → ⊥)

abbrev pub decreases-loop-next : goal.decreases-loop-next
decreases-loop-next l = length l.bytes - l.next
