-- How much a request may ask for.
use Rattle.std.specs.Prelude.{ℕ, ◌≤◌}

-- a request beyond this could be refused whatever memory there is
abbrev pub IsModest : ℕ → Type 0
IsModest more = more ≤ 0x1000000
