use Rattle.std.proofs.Common.{◌≡◌, ◌+◌, length, vec_len, sum_by}
use Rattle.core_lock.specs.Seats.{HeldSeat}
use Rattle.core_lock.proofs.locked.settle.Given as goal

abbrev pub invariant-loop-seat : goal.invariant-loop-seat
invariant-loop-seat g l = (l.rest.parts + vec_len l.seats ≡ 1025) × (l.rest.amount + sum_by (λ (s : HeldSeat). length s.value.log) l.seats.items ≡ l.initial.rest.amount + sum_by (λ (s : HeldSeat). length s.value.log) l.initial.seats.items)

abbrev pub decreases-loop-seat : goal.decreases-loop-seat
decreases-loop-seat g l = vec_len l.seats
