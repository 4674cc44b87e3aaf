-- The number of each side of a unit (own).
use Rattle.std.specs.Prelude.{ℕ, ◌==◌, Option, Some, None, if◌then◌else◌}
use Rattle.chan_model.specs.declared.names.Side.{Side}
use Rattle.chan_model.specs.declared.names.Side.TheVariants.{First, Second}

abbrev pub side_number : Side → ℕ
side_number First = 0
side_number Second = 1

abbrev pub side_numbered : ℕ → Option Side
side_numbered number = if number == 0 then Some First else (if number == 1 then Some Second else None)
