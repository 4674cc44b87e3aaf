-- The bytes of a command move in chunks, which are numbered from 1: which Data of the device is answered (own).
use Rattle.std.specs.Prelude.{ℕ, ◌+◌, Bool, not, ◌==◌, ◌&&◌, ◌||◌}
use Rattle.chan_model.specs.UnitReports.{is_outward}
use Rattle.data_move.specs.declared.transfer.Transfer.{Transfer}

-- the chunk that follows the last one
abbrev pub is_next_chunk : Transfer → ℕ → Bool
is_next_chunk t sequence = sequence == t.sequence + 1

-- the last chunk, which the device sends again where it left before the answer came, or the next one
abbrev pub is_last_or_next_chunk : Transfer → ℕ → Bool
is_last_or_next_chunk t sequence = (sequence == t.sequence) || is_next_chunk t sequence

-- a write or control command asks for its first bytes by the number 0; a read or sense command brings bytes from 1 on
abbrev pub asks_or_brings : Transfer → ℕ → Bool
asks_or_brings t sequence = is_outward t.code || not (sequence == 0)

-- a Data is answered where it is of this command, its chunk is the last one or the next, and it asks for bytes or brings them
abbrev pub is_answered : Transfer → ℕ → ℕ → Bool
is_answered t command sequence = ((command == t.command) && is_last_or_next_chunk t sequence) && asks_or_brings t sequence
