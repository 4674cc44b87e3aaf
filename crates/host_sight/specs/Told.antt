-- What is told by a number that has none of its own (own).
use Rattle.std.specs.Prelude.{ℕ, Bool, if◌then◌else◌, Option, None, Some}

-- the index of a path, and 8 where there is none
abbrev pub no_path : ℕ
no_path = 8

abbrev pub path_told : Option ℕ → ℕ
path_told None = no_path
path_told (Some path) = path

-- whether something is so
abbrev pub flag_told : Bool → ℕ
flag_told so = if so then 1 else 0
