-- A unit, the one or two subchannels that reach it, and the signals between them (own).
use Rattle.std.specs.Prelude.{◌≡◌, ◌⊎◌, ℕ, Option, None, Some, List, [], ◌∷◌, ◌++◌, All, Contains}
use Rattle.chan_model.specs.declared.names.Side.{Side}
use Rattle.chan_model.specs.declared.names.Side.TheVariants.{First, Second}
use Rattle.chan_model.specs.declared.hold_state.HoldState.{HoldState}
use Rattle.chan_model.specs.declared.signal.OnPath.{OnPath}
use Rattle.chan_model.specs.Signals.{Down}
use Rattle.chan_model.specs.Signals.{Up}
use Rattle.chan_model.specs.declared.signal.Up.TheVariants as up
use Rattle.chan_model.specs.declared.unit_state.UnitState.{UnitState}
use Rattle.chan_model.specs.HoldTable.{free_hold}
use Rattle.chan_model.specs.UnitTable.{idle_unit}

-- One subchannel: how many numbers it drew, its hold, the signals of both directions that may still arrive, and the
-- numbers of its programs that the unit accepted, in their order.
pub record Link : Type 0 where
  pub drawn : ℕ
  pub hold : HoldState
  pub downs : List (OnPath Down)
  pub ups : List (OnPath Up)
  pub accepted : List ℕ

pub record Links : Type 0 where
  pub «unit» : UnitState
  pub first : Link
  pub second : Link

abbrev pub link_of : Links → Side → Link
link_of w First = w.first
link_of w Second = w.second

abbrev pub opening_link : Link
opening_link = record { drawn = 0; hold = free_hold; downs = []; ups = []; accepted = [] }

abbrev pub opening_links : Links
opening_links = record { «unit» = idle_unit; first = opening_link; second = opening_link }

-- What may arrive now might have arrived before, or is sent now: signals vanish, repeat and change places.
abbrev pub Carries : {A : Type 0} → List A → Option A → List A → Type 0
Carries old sent new = All (λ s. Contains old s ⊎ (sent ≡ Some s)) new

-- the numbers accepted, with that of an Accept that is sent
abbrev pub with_signal : List ℕ → Up → List ℕ
with_signal ts (up.Accept t) = ts ++ t ∷ []
with_signal ts signal = ts

abbrev pub with_accepted : List ℕ → Option (OnPath Up) → List ℕ
with_accepted ts None = ts
with_accepted ts (Some sent) = with_signal ts sent.signal
