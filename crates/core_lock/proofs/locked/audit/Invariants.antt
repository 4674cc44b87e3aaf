use Rattle.std.proofs.Common.{◌≡◌, ◌<◌, ℕ, get_or}
use Rattle.core_lock.specs.Seats.{HeldSeat, entries_by}
use Rattle.core_lock.proofs.locked.audit.Given as goal

abbrev pub invariant-loop-seat : goal.invariant-loop-seat
invariant-loop-seat g l = (k : ℕ) (d : HeldSeat) → k < l.seat-index → entries_by (get_or l.seats k d).value.number l.core.value.by l.core.value.history ≡ (get_or l.seats k d).value.log
