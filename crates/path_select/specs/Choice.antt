-- Which of the usable paths is taken (own). A subchannel has the paths 0 to 7 (SA22-7832, chapter 13).
use Rattle.std.specs.Prelude.{◌≡◌, ◌<◌, ◌≤◌, ◌+◌, ◌-◌, ◌%◌, ℕ, Bool, true, Option, None, Some, List, slice_get}

-- the path is in the set
abbrev pub IsUsable : List Bool → ℕ → Type 0
IsUsable usable path = (path < 8) × (slice_get usable path ≡ Some true)

-- what a choice may be: a path of the set, and none only where the set is empty
abbrev pub IsChoice : List Bool → Option ℕ → Type 0
IsChoice usable None = (path : ℕ) → ¬ IsUsable usable path
IsChoice usable (Some path) = IsUsable usable path

-- the path that follows the last one, where 0 follows 7; path 0 where there is no last one
abbrev pub following : Option ℕ → ℕ
following None = 0
following (Some last) = (last + 1) % 8

-- a rule of choice: by the usable paths and the path of the choice before, which path may be taken
abbrev pub Rule : Type 1
Rule = List Bool → Option ℕ → Option ℕ → Type 0

-- how many steps a path is ahead of the first one, where 0 follows 7
abbrev pub steps_to : ℕ → ℕ → ℕ
steps_to first path = (path + 8 - first) % 8

-- no usable path comes before the one chosen, counted from the first one on
abbrev pub IsNextFrom : List Bool → ℕ → Option ℕ → Type 0
IsNextFrom usable first None = Unit {0}
IsNextFrom usable first (Some path) = (other : ℕ) → IsUsable usable other → steps_to first path ≤ steps_to first other

-- no usable path is below the one chosen
abbrev pub IsLowest : List Bool → Option ℕ → Type 0
IsLowest usable None = Unit {0}
IsLowest usable (Some path) = (other : ℕ) → IsUsable usable other → path ≤ other

-- the rule of the lowest path
abbrev pub TakesLowest : Rule
TakesLowest usable last path = IsLowest usable path

-- the rule of the path that follows the last one
abbrev pub TakesNext : Rule
TakesNext usable last path = IsNextFrom usable (following last) path
