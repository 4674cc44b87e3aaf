-- A read, read-backward or sense command (SA22-7832, chapter 15; the chunks are this project's own): the bytes of a chunk that the device
-- supplied are stored.
use Rattle.std.specs.Prelude.{ℕ, if◌then◌else◌, Some, is_some, List, length, take, Result, Ok, Err}
use Rattle.storage_keys.specs.Storage.{Contents}
use Rattle.ccw_walk.specs.declared.check.Check.{Check}
use Rattle.data_move.specs.Moving as movement
use Rattle.data_move.specs.Accesses as access
use Rattle.data_move.specs.declared.transfer.Transfer.{Transfer}
use Rattle.data_move.specs.ChunkNumbers.{is_next_chunk}
use Rattle.data_move.specs.DataChaining.{after_bytes_moved}

-- a transfer, with storage as it left it
pub record StoredChunk : Type 0 where
  pub transfer : Transfer
  pub storage : Contents

-- storage is as it was
abbrev pub nothing_stored : Contents → Transfer → StoredChunk
nothing_stored storage t = record { transfer = t; storage = storage }

-- of the bytes of a chunk as many are stored as there is room for
abbrev pub fitting_bytes : Transfer → List ℕ → List ℕ
fitting_bytes t bytes = take (movement.room t.moving) bytes

-- bytes that are stored count as moved; where they can't be stored a check stops the transfer
abbrev pub after_store : Contents → Transfer → ℕ → Result Contents Check → StoredChunk
after_store storage t count (Ok after) = record { transfer = after_bytes_moved after t count; storage = after }
after_store storage t count (Err check) = nothing_stored storage (record t { fault = Some check })

-- bytes are stored at the next places, or skipped where SKIP is one; after a check none is stored
abbrev pub bytes_brought_in : Contents → Transfer → List ℕ → StoredChunk
bytes_brought_in storage t bytes =
    if is_some t.fault then nothing_stored storage t
    else after_store storage t (length bytes) (access.stored_or_skipped storage t.walk.orb.key t.moving bytes)

-- the next chunk is stored; the last one may come again, and then nothing is stored
abbrev pub chunk_stored : Contents → Transfer → ℕ → List ℕ → StoredChunk
chunk_stored storage t sequence bytes =
    if is_next_chunk t sequence then bytes_brought_in storage (record t { sequence = sequence }) (fitting_bytes t bytes) else nothing_stored storage t
