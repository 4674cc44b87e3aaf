-- What holds of the engines of channel paths: one subchannel for an engine, and one engine for a subchannel (SA22-7832, chapter 15,
-- the active allegiance).
use Rattle.std.specs.Prelude.{◌≡◌, ℕ, true, List, Some, slice_get}
use Rattle.chan_model.specs.declared.names.Side.{Side}
use Rattle.chan_model.specs.declared.unit_state.UnitState.{UnitState}
use Rattle.chan_model.specs.Agreement.{device_path}
use Rattle.chan_model.specs.ResetCauses.{engaged_path}
use Rattle.chan_model.specs.PathSets.{is_member}
use Rattle.subchannel_model.specs.declared.state.Subchannel.{Subchannel}
use Rattle.subchannel_model.specs.Choosing.{engages}
use Rattle.subchannel_model.specs.Store.{available_paths}
use Rattle.machine_model.specs.State.{State}

-- the engine of a channel path serves one of the subchannels at most
abbrev pub IsAlone : ℕ → List Subchannel → Type 0
IsAlone chpid subs = (i j : ℕ) (x y : Subchannel) → slice_get subs i ≡ Some x → slice_get subs j ≡ Some y → engages chpid x ≡ true →
    engages chpid y ≡ true → i ≡ j

pub record IsOnePath (s : State) : Type 0 where
  pub subchannel : (chpid : ℕ) → IsAlone chpid s.subs
  -- a subchannel has one engine at most that serves it
  pub engine : (index c d : ℕ) (x : Subchannel) → slice_get s.subs index ≡ Some x → engages c x ≡ true → engages d x ≡ true → c ≡ d
  -- that engine is of a path that is available
  pub available : (index p : ℕ) (x : Subchannel) → slice_get s.subs index ≡ Some x → engaged_path x.state.hold.phase ≡ Some p →
      is_member (available_paths x) p ≡ true
  -- a device moves data by one path at most, whichever of its sides it is of
  pub device : (index p q : ℕ) (a b : Side) (u : UnitState) → slice_get s.units index ≡ Some u → device_path u.own a ≡ Some p →
      device_path u.own b ≡ Some q → (a ≡ b) × (p ≡ q)
