-- What is kept of groups beside their units, so that a request need not pass through all units (own).
use Rattle.std.specs.Prelude.{◌≡◌, ℕ, ◌+◌, ◌-◌, Bool, true, false, Option, None, Some, List, slice_get, slice_set, count_by, cond}
use Rattle.std.specs.List.{list_any}
use Rattle.control_units.specs.declared.Member.{Member}
use Rattle.control_units.specs.declared.groups.Group.{Group}
use Rattle.control_units.specs.Units.{is_begun_in, is_refused_in, begun_at}

abbrev pub idle_group : Group
idle_group = record { begun = 0; refused = false }

-- how many units of a group are begun, and whether one of them is refused
abbrev pub group_of : List Member → ℕ → Group
group_of members number = record { begun = count_by (is_begun_in number) members; refused = list_any (is_refused_in number) members }

-- each entry of a table is that of the group of its number
abbrev pub AreGroupsOf : List Member → List Group → Type 0
AreGroupsOf members groups = (number : ℕ) (g : Group) → slice_get groups number ≡ Some g → g ≡ group_of members number

-- the table with the entry of a number changed, where there is one
abbrev pub changed_at : (Group → Group) → List Group → ℕ → Option Group → List Group
changed_at change groups number None = groups
changed_at change groups number (Some g) = slice_set groups number (change g)

abbrev pub changed : (Group → Group) → List Group → ℕ → List Group
changed change groups number = changed_at change groups number (slice_get groups number)

-- a unit of the group, which is begun or not, comes to be begun or not
abbrev pub begun_changed : Bool → Bool → Group → Group
begun_changed before after g = record g { begun = g.begun - cond before 1 0 + cond after 1 0 }

abbrev pub with_refused : Bool → Group → Group
with_refused refused g = record g { refused = refused }

-- a unit is not begun any more, and its group is informed of nothing
abbrev pub ended_at : List Member → ℕ → Option Member → List Member
ended_at members index found = elim found [ None ↦ members | Some m ↦ slice_set members index (record m { begun = false }) ]

-- a unit is begun, or it is not any more
abbrev pub begun_as : Bool → List Member → ℕ → Option Member → List Member
begun_as true = begun_at
begun_as false = ended_at
