-- Which paths of a subchannel are allowed, usable, and found not operational (SA22-7832, chapter 15; which masks count and
-- when they change is this project's own choice).
use Rattle.std.specs.Prelude.{ℕ, Bool, true, ◌==◌, ◌&&◌, Option, None, Some, List}
use Rattle.chan_model.specs.PathSets.{is_member, each_path, in_both, without, joined}
use Rattle.allegiance.specs.declared.path_use.PathUse.{PathUse}

-- a dedicated allegiance keeps to its path
abbrev pub keeps_dedicated : Option ℕ → ℕ → Bool
keeps_dedicated None path = true
keeps_dedicated (Some d) path = d == path

-- allowed: the logical-path mask, cut down to one path by a dedicated allegiance
abbrev pub is_allowed : List Bool → Option ℕ → ℕ → Bool
is_allowed logical dedicated path = is_member logical path && keeps_dedicated dedicated path

abbrev pub allowed_paths : PathUse → List Bool
allowed_paths u = each_path (is_allowed u.logical u.dedicated)

-- within reach: allowed, installed and available
abbrev pub reachable_paths : PathUse → List Bool
reachable_paths u = in_both (in_both (allowed_paths u) u.installed) u.available

-- usable: within reach, and the path's engine is free
abbrev pub usable_paths : PathUse → List Bool → List Bool
usable_paths u engaged = without (reachable_paths u) engaged

-- found not operational: allowed, installed and taken to be operational, but not available
abbrev pub lost_paths : PathUse → List Bool
lost_paths u = in_both (without (in_both (allowed_paths u) u.installed) u.available) u.operational

-- such a path leaves the path-operational mask for the path-not-operational mask
abbrev pub marked : PathUse → PathUse
marked u = record u { operational = without u.operational (lost_paths u); not_operational = joined u.not_operational (lost_paths u) }
