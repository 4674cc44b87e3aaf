-- What is claimed of each side of a unit and its subchannel, after every list of steps (own).
use Rattle.std.specs.Prelude.{◌≡◌, ◌≢◌, ◌⊎◌, ◌<◌, ◌≤◌, ℕ, true, Some, All, AllPairs}
use Rattle.chan_model.specs.declared.names.Side.{Side}
use Rattle.chan_model.specs.declared.hold_state.HoldPhase.{HoldPhase}
use Rattle.chan_model.specs.declared.hold_state.HoldPhase.TheVariants as hold
use Rattle.chan_model.specs.Signals.{Down}
use Rattle.chan_model.specs.declared.signal.Down.TheVariants as down
use Rattle.chan_model.specs.declared.unit_state.UnitState.{UnitState}
use Rattle.chan_model.specs.Sides.{same_side}
use Rattle.chan_model.specs.UnitTable.{side_of, resets}
use Rattle.chan_model.specs.Agreement.{Agrees, IsOutstanding, owner_of, moving_path, device_path}
use Rattle.agreement_laws.specs.Links.{Links, link_of}
use Rattle.agreement_laws.specs.Moving.{LinkCause, Hold_acts, Unit_acts, UnitAct, Takes_down}

-- subsystem and device agree on the program that holds the device
abbrev pub DoAgree : Links → Side → Type 0
DoAgree w side = Agrees (link_of w side).hold.phase (owner_of w.«unit».own side)

-- a reset isn't yet taken
abbrev pub IsResetDue : Links → Side → Type 0
IsResetDue w side = IsOutstanding (link_of w side).hold.phase (side_of w.«unit» side)

pub record IsSound (w : Links) (side : Side) : Type 0 where
  -- they agree, except while a reset isn't yet taken
  pub agree : DoAgree w side ⊎ IsResetDue w side
  -- where the subsystem moves data on p and the device on q, p is q
  pub one_path : (p q : ℕ) → moving_path (link_of w side).hold.phase ≡ Some p → device_path w.«unit».own side ≡ Some q → p ≡ q
  -- each number was accepted at most once
  pub once : AllPairs (λ earlier later. earlier < later) (link_of w side).accepted

-- the signal is the Reset of the hold, and the unit takes it
abbrev pub IsReset : UnitState → HoldPhase → Side → Down → Type 0
IsReset u phase side (down.Reset r b) = (phase ≡ hold.Reset r) × (resets u side r b ≡ true)
IsReset u phase side signal = ⊥

abbrev pub IsTakenBy : UnitState → HoldPhase → UnitAct → Side → Type 0
IsTakenBy u phase (Takes_down k x may) side = (same_side k side ≡ true) × IsReset u phase side x.signal
IsTakenBy u phase act side = ⊥

abbrev pub IsResetTaken : Links → LinkCause → Side → Type 0
IsResetTaken w (Hold_acts k act) side = ⊥
IsResetTaken w (Unit_acts act) side = IsTakenBy w.«unit» (link_of w side).hold.phase act side

-- a reset that isn't yet taken stays so, but where the unit takes it, and they agree after that very step
abbrev pub EndsByReset : Links → LinkCause → Links → Side → Type 0
EndsByReset old cause new side = IsResetDue old side → IsResetDue new side ⊎ (IsResetTaken old cause side × DoAgree new side)

-- the number t was not accepted, and is below what will be
pub record IsPassed (w : Links) (side : Side) (t : ℕ) : Type 0 where
  pub never : All (λ a. a ≢ t) (link_of w side).accepted
  pub floor : t ≤ (side_of w.«unit» side).floor
