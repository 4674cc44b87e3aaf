-- Lists of numbers.
use Rattle.std.specs.Prelude.{ℕ, ◌<◌, List, slice_index}

-- each is a byte
abbrev pub AreSmall : List ℕ → Type 0
AreSmall numbers = (k : ℕ) → slice_index numbers k < 0x100
