-- Signals whose bytes are lent, and signals that have none, as signals over lists of bytes (own).
use Rattle.std.specs.Prelude.{[]}
use Rattle.chan_model.specs.declared.lent.LentDown.{LentDown}
use Rattle.chan_model.specs.declared.lent.LentUp.{LentUp}
use Rattle.chan_model.specs.declared.lent.PlainDown.{PlainDown}
use Rattle.chan_model.specs.declared.lent.PlainUp.{PlainUp}
use Rattle.chan_model.specs.Signals.{Down, Up, down_in, up_in}

-- a signal whose bytes are lent
abbrev pub lent_down : LentDown → Down
lent_down signal = down_in signal.kept.now signal.bytes.now

abbrev pub lent_up : LentUp → Up
lent_up signal = up_in signal.kept.now signal.bytes.now

-- a signal that has no bytes
abbrev pub plain_down : PlainDown → Down
plain_down signal = down_in signal.kept []

abbrev pub plain_up : PlainUp → Up
plain_up signal = up_in signal.kept []
