-- How many bytes a Data signal stands for (own).
use Rattle.std.specs.Prelude.{ℕ, length}
use Rattle.chan_model.specs.Signals.{Load}
use Rattle.chan_model.specs.declared.signal.Load.TheVariants.{Absorbed, Bytes}

abbrev pub load_length : Load → ℕ
load_length (Absorbed count) = count
load_length (Bytes bytes) = length bytes
