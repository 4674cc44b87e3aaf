-- What is told outside a lock of what was done under it (own).
use Rattle.std.specs.Prelude.{ℕ, Bool, Result}
use Rattle.chan_model.specs.declared.fault.Fault.{Fault}
use Rattle.chan_events.specs.Events.{Event}
use Rattle.chan_events.specs.Replies.{Reply}
use Rattle.path_select.specs.Choice.{Rule}
use Rattle.core_lock.specs.Seats.{Guarded, GuardedCore, HeldSeat, Seated}
use Rattle.core_lock.specs.Turns.{Executes, IsOfMachine, TakesPathTurn, TakesUnitTurn, turn_of_path, turned_seat}

-- an event is executed from a seat, at the machine of that seat as it stood when the lock was got, and left so
pub record IsExecuted (picks : Rule) (old : HeldSeat) (e : Event) (result : Result Reply Fault) (new : Seated) : Type 0 where
  pub core : GuardedCore
  pub left : Guarded
  pub of_machine : IsOfMachine old.value core.value
  pub executes : Executes picks core old e result left new

-- a turn of a channel path's worker, at the machine of its seat as it stood when the lock was got
pub record IsPathTurn (picks : Rule) (chpid : ℕ) (old : HeldSeat) (result : Result Bool Fault) (new : Seated) : Type 0 where
  pub core : GuardedCore
  pub left : Guarded
  pub of_machine : IsOfMachine old.value core.value
  pub turn : TakesPathTurn picks core (turned_seat old) (turn_of_path core.value.state chpid) result left new

-- a turn of a unit's worker under the lock, at the machine of its seat as it stood when the lock was got
pub record IsUnitTurn (picks : Rule) (roam : Bool) (at : ℕ) (old : HeldSeat) (result : Result Bool Fault) (new : Seated) : Type 0 where
  pub core : GuardedCore
  pub left : Guarded
  pub of_machine : IsOfMachine old.value core.value
  pub turn : TakesUnitTurn picks core (turned_seat old) old.value.waiting at roam result left new
