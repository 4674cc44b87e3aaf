-- When subsystem and device agree on the program that holds the device (own).
use Rattle.std.specs.Prelude.{◌≡◌, ◌<◌, ◌⊎◌, ℕ, true, if◌then◌else◌, Option, None, Some}
use Rattle.chan_model.specs.declared.names.Side.{Side}
use Rattle.chan_model.specs.declared.hold_state.HoldPhase.{HoldPhase}
use Rattle.chan_model.specs.declared.hold_state.HoldPhase.TheVariants as hold
use Rattle.chan_model.specs.declared.unit_state.Own.{Own}
use Rattle.chan_model.specs.declared.unit_state.Own.TheVariants.{Idle, Owned}
use Rattle.chan_model.specs.declared.unit_state.SideState.{SideState}
use Rattle.chan_model.specs.Sides.{same_side}
use Rattle.chan_model.specs.UnitTable.{path_of_connection}

-- the number of the program of this side that holds the device
abbrev pub owner_of : Own → Side → Option ℕ
owner_of Idle side = None
owner_of (Owned k t connection) side = if same_side k side then Some t else None

-- where the hold is held by a program, so is the device, and by the same; where the device is held by one, the hold
-- offers it, is held by it, or lets it go
abbrev pub Agrees : HoldPhase → Option ℕ → Type 0
Agrees (hold.On t p c) owner = owner ≡ Some t
Agrees (hold.Away t) owner = owner ≡ Some t
Agrees (hold.Offer t p) owner = (owner ≡ None) ⊎ (owner ≡ Some t)
Agrees (hold.Letting t p) owner = (owner ≡ None) ⊎ (owner ≡ Some t)
Agrees phase owner = owner ≡ None

-- the hold is to be reset under a number above this floor
abbrev pub IsAboveFloor : HoldPhase → ℕ → Type 0
IsAboveFloor phase floor = elim phase [ hold.Reset r ↦ floor < r | other ↦ ⊥ ]

-- a reset that isn't yet taken: the device's side is fresh, or the hold is to be reset under a number above its floor
abbrev pub IsOutstanding : HoldPhase → SideState → Type 0
IsOutstanding phase side = (side.fresh ≡ true) ⊎ IsAboveFloor phase side.floor

-- the path that moves data at the subsystem
abbrev pub moving_path : HoldPhase → Option ℕ
moving_path (hold.On t p c) = Some p
moving_path phase = None

-- the path that moves data at the device, of this side
abbrev pub device_path : Own → Side → Option ℕ
device_path Idle side = None
device_path (Owned k t connection) side = if same_side k side then path_of_connection connection else None
