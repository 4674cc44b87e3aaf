-- What control units keep of their units, and what they owe (own; `control_units` has the rules).
use Rattle.std.specs.Prelude.{ℕ, Bool, true, false, not, ◌&&◌, ◌||◌, nat_lt, if◌then◌else◌, List}
use Rattle.chan_model.specs.declared.names.Side.{Side}
use Rattle.chan_model.specs.Signals.{Down}
use Rattle.chan_model.specs.declared.signal.Down.TheVariants as down
use Rattle.chan_model.specs.declared.unit_state.UnitState.{UnitState}
use Rattle.chan_model.specs.UnitTable.{side_of, is_idle}
use Rattle.control_units.specs.declared.Member.{Member}
use Rattle.control_units.specs.Units.{may_serve, asked, member_begun, is_owed, over}

-- the control unit is asked for a Select above the floor, at a side that is not fresh, where no program holds the device
abbrev pub is_asked_for : UnitState → Side → Down → Bool
is_asked_for u side (down.Select t) = not (side_of u side).fresh && (nat_lt (side_of u side).floor t && is_idle u.own)
is_asked_for u side signal = false

abbrev pub may_take : List Member → ℕ → Bool → Bool
may_take members index asks = not asks || may_serve members index

-- the unit is begun, or refused, where it was asked for; it is over where a program held its device and none does any more
abbrev pub members_asked : List Member → ℕ → Bool → List Member
members_asked members index true = member_begun members index
members_asked members index false = asked members index false

abbrev pub is_let_go : UnitState → UnitState → Bool
is_let_go old new = not (is_idle old.own) && is_idle new.own

abbrev pub members_over : List Member → ℕ → Bool → List Member
members_over members index ends = if ends then over members index else members

abbrev pub members_after : List Member → ℕ → Bool → UnitState → UnitState → List Member
members_after members index asks old new =
    if asks then members_asked members index (may_serve members index) else members_over members index (is_let_go old new)

-- as it is over, a control-unit end may be owed, which the unit's next attention says
abbrev pub is_owed_after : List Member → ℕ → UnitState → UnitState → Bool
is_owed_after members index old new = is_let_go old new && is_owed members index

abbrev pub owing : Bool → UnitState → UnitState
owing owed u = record u { end_owed = u.end_owed || owed }

abbrev pub owing_after : List Member → ℕ → UnitState → UnitState → UnitState
owing_after members index old new = owing (is_owed_after members index old new) new
