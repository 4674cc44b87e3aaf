-- Units that share a control unit: one of a group is served at a time (own). What a control unit keeps is listed by unit, in
-- the order of their numbers: the number of its group, whether it is begun, and whether it was refused since a unit of its
-- group was over. Units of the same number share; a unit with a number of its own shares with none.
use Rattle.std.specs.Prelude.{ℕ, ◌+◌, ◌==◌, ◌&&◌, ◌||◌, Bool, true, false, not, if◌then◌else◌, Option, None, Some, List, take, drop, map, slice_get, slice_set}
use Rattle.std.specs.List.{list_any}
use Rattle.control_units.specs.declared.Member.{Member}

abbrev pub idle_member : ℕ → Member
idle_member group = record { group = group; begun = false; refused = false }

-- whether a unit other than this one passes a test
abbrev pub any_other : (Member → Bool) → List Member → ℕ → Bool
any_other test members index = list_any test (take index members) || list_any test (drop (index + 1) members)

abbrev pub is_begun : Member → Bool
is_begun m = m.begun

abbrev pub is_begun_in : ℕ → Member → Bool
is_begun_in group m = m.begun && (m.group == group)

abbrev pub is_refused_in : ℕ → Member → Bool
is_refused_in group m = m.refused && (m.group == group)

-- Whether the unit may be served: no other unit of its group is begun.
abbrev pub may_serve_at : List Member → ℕ → Option Member → Bool
may_serve_at members index found = elim found [ None ↦ true | Some m ↦ not (any_other (is_begun_in m.group) members index) ]

abbrev pub may_serve : List Member → ℕ → Bool
may_serve members index = may_serve_at members index (slice_get members index)

-- A unit was asked for: it is refused where it may not be served.
abbrev pub refused_at : List Member → ℕ → Option Member → List Member
refused_at members index found = elim found [ None ↦ members | Some m ↦ slice_set members index (record m { refused = true }) ]

abbrev pub asked : List Member → ℕ → Bool → List Member
asked members index true = members
asked members index false = refused_at members index (slice_get members index)

-- A unit is begun.
abbrev pub begun_at : List Member → ℕ → Option Member → List Member
begun_at members index found = elim found [ None ↦ members | Some m ↦ slice_set members index (record m { begun = true }) ]

abbrev pub member_begun : List Member → ℕ → List Member
member_begun members index = begun_at members index (slice_get members index)

-- Whether a control-unit end is owed as a unit is over: some unit of its group was refused since one was over.
abbrev pub is_owed_at : List Member → Option Member → Bool
is_owed_at members found = elim found [ None ↦ false | Some m ↦ list_any (is_refused_in m.group) members ]

abbrev pub is_owed : List Member → ℕ → Bool
is_owed members index = is_owed_at members (slice_get members index)

-- A unit is over: it is not begun, and no unit of its group is refused any more.
abbrev pub member_informed : ℕ → Member → Member
member_informed group m = if m.group == group then record m { refused = false } else m

abbrev pub over_at : List Member → ℕ → Option Member → List Member
over_at members index found =
    elim found [ None ↦ members | Some m ↦ map (member_informed m.group) (slice_set members index (record m { begun = false })) ]

abbrev pub over : List Member → ℕ → List Member
over members index = over_at members index (slice_get members index)
