-- What a unit does with a signal of a side, told by where the program of that side is at it.
use Rattle.std.proofs.Common.{◌≡◌, refl, ◌∙◌, ap, ℕ, ◌<◌, ◌≤◌, Bool, true, false, Option, None, Some, List, arith}
use Rattle.std.specs.Prelude.{if◌then◌else◌}
use Rattle.chan_model.specs.declared.names.Side.{Side}
use Rattle.chan_model.specs.declared.names.Side.TheVariants.{First, Second}
use Rattle.chan_model.specs.Signals.{Down}
use Rattle.chan_model.specs.declared.signal.Down.TheVariants as down
use Rattle.chan_model.specs.Signals.{Up}
use Rattle.chan_model.specs.declared.signal.Up.TheVariants as up
use Rattle.chan_model.specs.declared.unit_state.Own.{Own}
use Rattle.chan_model.specs.declared.unit_state.Own.TheVariants as own
use Rattle.chan_model.specs.declared.unit_state.Connection.{Connection}
use Rattle.chan_model.specs.declared.unit_state.Connection.TheVariants as connection
use Rattle.chan_model.specs.declared.unit_state.SideState.{SideState}
use Rattle.chan_model.specs.declared.unit_state.UnitState.{UnitState}
use Rattle.chan_model.specs.Sides.{same_side}
use Rattle.chan_model.specs.UnitTable.{UnitStep, changes, sends, side_of, with_side, freed, raised, owns, unit_takes, new_command, reset_side, without_side}
use Rattle.chan_model.proofs.TakenSignals as taken
use Rattle.agreement_laws.proofs.SeenSignals.{IsPlainDown, IsResetAbove}

-- the program of a side that holds the device, and where it is
pub record Held : Type 0 where
  pub number : ℕ
  pub connection : Connection

abbrev pub held : ℕ → Connection → Held
held t at = record { number = t; connection = at }

abbrev pub held_at : Own → Side → Option Held
held_at own.Idle side = None
held_at (own.Owned k t at) side = if same_side k side then Some (held t at) else None

abbrev pub holds : UnitState → Side → Option Held
holds u side = held_at u.own side

abbrev pub floor_of : UnitState → Side → ℕ
floor_of u side = (side_of u side).floor

-- signals that say nothing of where a program is
abbrev pub IsQuiet : Up → Type 0
IsQuiet (up.Busy t) = Unit {0}
IsQuiet (up.Notice b) = Unit {0}
IsQuiet (up.Attn a status) = Unit {0}
IsQuiet x = ⊥

-- signals after which none of the side holds the device
abbrev pub IsFreeing : Up → Type 0
IsFreeing (up.Released t) = Unit {0}
IsFreeing (up.Cleared r) = Unit {0}
IsFreeing x = ⊥

-- the program is where it was
pub record IsStill (u v : UnitState) (side : Side) : Type 0 where
  pub held : holds v side ≡ holds u side
  pub floor : floor_of u side ≤ floor_of v side

-- a signal is taken that came down by p
pub data Takes (side : Side) (u : UnitState) (p : ℕ) : Down → Option UnitStep → Type 0 where
  Ignores : (d : Down) → Takes side u p d None
  Tells : (d : Down) (v : UnitState) (x : Up) → IsQuiet x → IsStill u v side → Takes side u p d (sends v p x)
  Changes : (d : Down) (v : UnitState) → IsPlainDown d → IsStill u v side → Takes side u p d (changes v)
  Gives : (t c n s q : ℕ) (bytes : List ℕ) (v : UnitState) → holds u side ≡ Some (held t (connection.On q c)) → IsStill u v side → Takes side u p (down.Give bytes t c n s) (changes v)
  Frees : (d : Down) (v : UnitState) (x : Up) → IsFreeing x → holds v side ≡ None → floor_of u side ≤ floor_of v side → Takes side u p d (sends v p x)
  Accepts : (t : ℕ) (v : UnitState) → floor_of u side < t → floor_of v side ≡ t → holds v side ≡ Some (held t (connection.On p 0)) → Takes side u p (down.Select t) (sends v p (up.Accept t))
  Joins : (t c q : ℕ) (v : UnitState) → holds u side ≡ Some (held t (connection.Ask q c)) → holds v side ≡ Some (held t (connection.On q c)) → floor_of u side ≤ floor_of v side →
      Takes side u p (down.Grant t c) (changes v)
  Parts : (d : Down) (t c q : ℕ) (v : UnitState) → IsPlainDown d → holds u side ≡ Some (held t (connection.Ask q c)) → holds v side ≡ Some (held t (connection.Away c)) → floor_of u side ≤ floor_of v side →
      Takes side u p d (changes v)
  Answers : (t c : ℕ) → Takes side u p (down.Grant t c) (sends u p (up.Leave t c))

if-same : {A : Type 0} (b : Bool) (x : A) → (if b then x else x) ≡ x
if-same true x = refl
if-same false x = refl

pub still : (u : UnitState) (side : Side) → IsStill u u side
still u side = record { held = refl; floor = omega arith }

pub still-as : (u v : UnitState) (side : Side) → v.own ≡ u.own → v.first ≡ u.first → v.second ≡ u.second → IsStill u v side
still-as u v First o f g = record { held = ap (λ (x : Own). held_at x First) o; floor = let e : v.first.floor ≡ u.first.floor = ap (λ (s : SideState). s.floor) f in omega (arith, e) }
still-as u v Second o f g = record { held = ap (λ (x : Own). held_at x Second) o; floor = let e : v.second.floor ≡ u.second.floor = ap (λ (s : SideState). s.floor) g in omega (arith, e) }

pub own-floor : (u : UnitState) (o : Own) (side : Side) → floor_of (record u { own = o }) side ≡ floor_of u side
own-floor u o First = refl
own-floor u o Second = refl

pub held-here : (side : Side) (t : ℕ) (at : Connection) → held_at (own.Owned side t at) side ≡ Some (held t at)
held-here First t at = refl
held-here Second t at = refl

here-floor : (u : UnitState) (side : Side) (s : SideState) → floor_of (with_side u side s) side ≡ s.floor
here-floor u First s = refl
here-floor u Second s = refl

begun-floor : (u : UnitState) (o : Own) (side : Side) → floor_of (record (freed u) { own = o }) side ≡ floor_of u side
begun-floor u o First = refl
begun-floor u o Second = refl

raised-own : (u : UnitState) (side : Side) (t : ℕ) → (raised u side t).own ≡ u.own
raised-own u First t = refl
raised-own u Second t = refl

raised-still : (u : UnitState) (side : Side) (t : ℕ) → floor_of u side < t → IsStill u (raised u side t) side
raised-still u side t above = record {
  held = ap (λ (x : Own). held_at x side) (raised-own u side t);
  floor = let f : floor_of (raised u side t) side ≡ t = here-floor u side _ in omega (arith, f, above);
}

owned-here : (u : UnitState) (side : Side) (t : ℕ) (at : Connection) → u.own ≡ own.Owned side t at → holds u side ≡ Some (held t at)
owned-here u side t at e = ap (λ (o : Own). held_at o side) e ∙ held-here side t at

floor-le : (u : UnitState) (o : Own) (side : Side) → floor_of u side ≤ floor_of (record u { own = o }) side
floor-le u o side = let e : floor_of (record u { own = o }) side ≡ floor_of u side = own-floor u o side in omega (arith, e)

freed-floor : (u : UnitState) (side : Side) → floor_of u side ≤ floor_of (freed u) side
freed-floor u First = omega arith
freed-floor u Second = omega arith

-- a Reset that is taken raises the floor
side-own : (u : UnitState) (side : Side) (s : SideState) → (with_side u side s).own ≡ u.own
side-own u First s = refl
side-own u Second s = refl

pub not-owned : (o : Own) (side : Side) → owns o side ≡ false → held_at o side ≡ None
not-owned own.Idle side e = refl
not-owned (own.Owned k t at) side e = ap (λ (b : Bool). if b then Some (held t at) else None) e

without-held : (u : UnitState) (side : Side) (b : Bool) → owns u.own side ≡ b → held_at (if b then freed u else u).own side ≡ None
without-held u side true e = refl
without-held u side false e = not-owned u.own side e

reset-frees : (side : Side) (u : UnitState) (p r b : ℕ) → floor_of u side < r → Takes side u p (down.Reset r b) (sends (reset_side u side r) p (up.Cleared r))
reset-frees side u p r b above =
    Frees (down.Reset r b) (reset_side u side r) (up.Cleared r) tt (ap (λ (o : Own). held_at o side) (side-own (without_side u side) side _) ∙ without-held u side (owns u.own side) refl)
    (let f : floor_of (reset_side u side r) side ≡ r = here-floor (without_side u side) side _ in omega (arith, f, above))

taken-takes : (side : Side) (u : UnitState) (p : ℕ) (d : Down) (step : Option UnitStep) → IsResetAbove u side d → taken.Takes u side p d step → Takes side u p d step
taken-takes side u p _ _ above (taken.Ignores d) = Ignores d
taken-takes side u p _ _ above (taken.Notices d fresh) = Tells d u (up.Notice u.restarts) tt (still u side)
taken-takes side u p _ _ above (taken.Accepts t high idle) =
    Accepts t _ high (begun-floor (raised u side t) (own.Owned side t (connection.On p 0)) side ∙ here-floor u side _) (held-here side t (connection.On p 0))
taken-takes side u p _ _ above (taken.Denies t high) = Tells _ (raised u side t) (up.Busy t) tt (raised-still u side t high)
taken-takes side u p _ _ above (taken.Begins t n code room at is next) =
    Changes _ _ tt (still-as u (record u { last_command = n; current = Some (new_command p code room) }) side refl refl refl)
taken-takes side u p _ _ above (taken.Joins t c q is) =
    Joins t c q _ (owned-here u side t (connection.Ask q c) is) (held-here side t (connection.On q c)) (floor-le u (own.Owned side t (connection.On q c)) side)
taken-takes side u p _ _ above (taken.Leaves t c at is) = Answers t c
taken-takes side u p _ _ above (taken.Parts t c q is) =
    Parts _ t c q _ tt (owned-here u side t (connection.Ask q c) is) (held-here side t (connection.Away c)) (floor-le u (own.Owned side t (connection.Away c)) side)
taken-takes side u p _ _ above (taken.Answers t s room at x load is hand last loaded) = Changes _ _ tt (still-as u _ side refl refl refl)
taken-takes side u p _ _ above (taken.Gives bytes t c s q x is hand next) =
    Gives t c u.last_command s q bytes _ (owned-here u side t (connection.On q c) is) (still-as u _ side refl refl refl)
taken-takes side u p _ _ above (taken.Halts t at is first) = Changes _ _ tt (still-as u (record u { halted = true }) side refl refl refl)
taken-takes side u p _ _ above (taken.Frees t at is) = Frees _ (freed u) (up.Released t) tt refl (freed-floor u side)
taken-takes side u p _ _ above (taken.Resets r b is) = reset-frees side u p r b (above r b refl is)
taken-takes side u p _ _ above (taken.Forgets a) = Changes _ _ tt (still-as u _ side refl refl refl)

pub takes-takes : (side : Side) (u : UnitState) (p : ℕ) (d : Down) (may : Bool) → IsResetAbove u side d → Takes side u p d (unit_takes u side p d may)
takes-takes side u p d may above = taken-takes side u p d _ above (taken.takes-by u side p d may)
