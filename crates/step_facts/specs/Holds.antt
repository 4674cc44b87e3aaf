-- The holds that changed.
use Rattle.std.specs.Prelude.{◌==◌, ◌&&◌, ℕ, zero, suc, Bool, true, false, not, if◌then◌else◌, List, [], ◌∷◌, ◌++◌, length, slice_get, Option, None, Some}
use Rattle.chan_model.specs.declared.hold_state.HoldPhase.{HoldPhase}
use Rattle.chan_model.specs.declared.hold_state.HoldPhase.TheVariants as phase
use Rattle.chan_model.specs.declared.hold_state.HoldState.{HoldState}
use Rattle.step_records.specs.declared.record.Fact.{Fact}
use Rattle.step_records.specs.declared.record.Fact.TheVariants as fact
use Rattle.functions.specs.Unwired.{Unwired}

abbrev pub same_path : Option ℕ → Option ℕ → Bool
same_path None None = true
same_path (Some p) (Some q) = p == q
same_path None (Some q) = false
same_path (Some p) None = false

abbrev pub same_phase : HoldPhase → HoldPhase → Bool
same_phase phase.Free phase.Free = true
same_phase (phase.Offer a p) (phase.Offer b q) = (a == b) && (p == q)
same_phase (phase.On a p c) (phase.On b q d) = (a == b) && ((p == q) && (c == d))
same_phase (phase.Away a) (phase.Away b) = a == b
same_phase (phase.Letting a p) (phase.Letting b q) = (a == b) && (p == q)
same_phase (phase.Reset a) (phase.Reset b) = a == b
same_phase one other = false

abbrev pub same_bool : Bool → Bool → Bool
same_bool true b = b
same_bool false b = not b

-- whether nothing of a hold differs
abbrev pub same_hold : HoldState → HoldState → Bool
same_hold one other =
    same_phase one.phase other.phase && ((one.seen == other.seen) && ((one.known_restarts == other.known_restarts)
    && (same_path one.reset_path other.reset_path && (same_path one.first_path other.first_path && same_bool one.single_path other.single_path))))

-- the device is let go or is to be reset
abbrev pub is_ending : HoldPhase → Bool
is_ending (phase.Letting number path) = true
is_ending (phase.Reset number) = true
is_ending other = false

-- the fact of a subchannel whose hold differs, where what it became is one of the kind that is asked for
abbrev pub hold_change : Bool → ℕ → HoldState → HoldState → List Fact
hold_change ending sub before after =
    if same_bool (is_ending after.phase) ending && not (same_hold before after) then fact.Hold sub before after ∷ [] else []

abbrev pub hold_change_at : Bool → ℕ → Option Unwired → Option Unwired → List Fact
hold_change_at ending sub (Some before) (Some after) = hold_change ending sub before.state.hold after.state.hold
hold_change_at ending sub before after = []

-- those of the first subchannels, so many, in order
abbrev pub hold_changes : Bool → List Unwired → List Unwired → ℕ → List Fact
hold_changes ending befores afters zero = []
hold_changes ending befores afters (suc n) = hold_changes ending befores afters n ++ hold_change_at ending n (slice_get befores n) (slice_get afters n)

-- those of all subchannels: first those of devices that are held or free, then those that are let go or to be reset
abbrev pub all_hold_changes : List Unwired → List Unwired → List Fact
all_hold_changes befores afters = hold_changes false befores afters (length befores) ++ hold_changes true befores afters (length befores)
