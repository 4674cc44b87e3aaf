-- What workers do, turn after turn (own).
use Rattle.std.specs.Prelude.{◌≡◌, ◌⊎◌, ℕ, zero, suc, ◌+◌, Bool, None, Result}
use Rattle.chan_model.specs.declared.fault.Fault.{Fault}
use Rattle.chan_model.specs.Reports.{Call}
use Rattle.chan_model.specs.Reports.{DeviceAnswer}
use Rattle.path_select.specs.Choice.{Rule}
use Rattle.core_lock.specs.Seats.{HeldSeat, Seated}
use Rattle.core_lock.specs.Outside.{IsPathTurn, IsUnitTurn}
use Rattle.core_lock.specs.Turns.{Calls, count_in}

-- a call of the device that is owed is made, if any
abbrev pub MakesOwed : {D : Type 0} → (ℕ → ℕ → Type 0) → (D → Call → DeviceAnswer → D → Type 0) → Seated → D → Seated → D → Type 0
MakesOwed passes answers old device new after =
    ((old.owed ≡ None) × (new ≡ old) × (after ≡ device)) ⊎ Calls passes answers old device new after

-- a turn of a unit's worker, with the call that it leaves owed
pub record IsWholeTurn {D : Type 0} (picks : Rule) (passes : ℕ → ℕ → Type 0) (answers : D → Call → DeviceAnswer → D → Type 0) (roam : Bool) (at : ℕ) (old : HeldSeat) (device : D) (result : Result Bool Fault) (new : Seated) (after : D) : Type 0 where
  pub stepped : Seated
  pub turn : IsUnitTurn picks roam at old result stepped
  pub owed : MakesOwed passes answers stepped device new after

-- so many turns of a channel path's worker, one after another, and how many entries they added
abbrev pub ArePathTurns : Rule → ℕ → ℕ → HeldSeat → HeldSeat → ℕ → Type 0
ArePathTurns picks chpid zero old new added = (new ≡ old) × (added ≡ 0)
ArePathTurns picks chpid (suc turns) old new added =
    (mid : HeldSeat) × (before : ℕ) × (result : Result Bool Fault)
    × ArePathTurns picks chpid turns old mid before × IsPathTurn picks chpid mid result new.value × (added ≡ before + count_in result)

-- so many turns of a unit's worker, one after another, with the calls that they leave owed: each report but the first is what the
-- device answered to a call, and from call to call the device is the one that the call before left
abbrev pub AreUnitTurns : {D : Type 0} → Rule → (ℕ → ℕ → Type 0) → (D → Call → DeviceAnswer → D → Type 0) → Bool → ℕ → ℕ → HeldSeat → D → HeldSeat → D → ℕ → Type 0
AreUnitTurns {D} picks passes answers roam at zero old device new after added = (new ≡ old) × (after ≡ device) × (added ≡ 0)
AreUnitTurns {D} picks passes answers roam at (suc turns) old device new after added =
    (mid : HeldSeat) × (between : D) × (before : ℕ) × (result : Result Bool Fault)
    × AreUnitTurns picks passes answers roam at turns old device mid between before
    × IsWholeTurn picks passes answers roam at mid between result new.value after × (added ≡ before + count_in result)
