-- One turn more.
use Rattle.std.proofs.Common.{◌≡◌, ℕ, ◌+◌, Bool, Result, add-one, sym, subst}
use Rattle.chan_model.specs.declared.fault.Fault.{Fault}
use Rattle.chan_model.specs.Reports.{Call}
use Rattle.chan_model.specs.Reports.{DeviceAnswer}
use Rattle.path_select.specs.Choice.{Rule}
use Rattle.core_lock.specs.Seats.{HeldSeat}
use Rattle.core_lock.specs.Turns.{count_in}
use Rattle.core_lock.specs.Outside.{IsPathTurn}
use Rattle.machine_lock.specs.Working.{ArePathTurns, AreUnitTurns, IsWholeTurn}

pub path_more : (picks : Rule) (chpid n : ℕ) (old mid new : HeldSeat) (before added : ℕ) (result : Result Bool Fault)
    → ArePathTurns picks chpid n old mid before → IsPathTurn picks chpid mid result new.value → added ≡ before + count_in result → ArePathTurns picks chpid (n + 1) old new added
path_more picks chpid n old mid new before added result so turn is =
    subst (λ (k : ℕ). ArePathTurns picks chpid k old new added) (sym (add-one n)) (mid, before, result, so, turn, is)

module _ {D : Type 0} (picks : Rule) (passes : ℕ → ℕ → Type 0) (answers : D → Call → DeviceAnswer → D → Type 0) where
  pub unit_more : (roam : Bool) (at n : ℕ) (old mid new : HeldSeat) (device between after : D) (before added : ℕ) (result : Result Bool Fault)
      → AreUnitTurns picks passes answers roam at n old device mid between before → IsWholeTurn picks passes answers roam at mid between result new.value after
      → added ≡ before + count_in result → AreUnitTurns picks passes answers roam at (n + 1) old device new after added
  unit_more roam at n old mid new device between after before added result so turn is =
      subst (λ (k : ℕ). AreUnitTurns picks passes answers roam at k old device new after added) (sym (add-one n)) (mid, between, before, result, so, turn, is)
