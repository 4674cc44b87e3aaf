-- A write or control command (SA22-7832, chapter 15; the chunks are this project's own): the device absorbs the bytes of a chunk, and
-- the next chunk is fetched from storage and offered.
use Rattle.std.specs.Prelude.{ℕ, ◌||◌, nat_lt, min, if◌then◌else◌, Some, List, [], length, Result, Ok, Err}
use Rattle.storage_keys.specs.Storage.{Contents}
use Rattle.ccw_walk.specs.declared.check.Check.{Check}
use Rattle.data_move.specs.Moving as movement
use Rattle.data_move.specs.Accesses as access
use Rattle.data_move.specs.declared.transfer.Transfer.{Transfer}
use Rattle.data_move.specs.declared.transfer.NextChunk.{NextChunk}
use Rattle.data_move.specs.Commands.{has_stopped, located_transfer}
use Rattle.data_move.specs.ChunkNumbers.{is_next_chunk}
use Rattle.data_move.specs.DataChaining.{after_bytes_moved}

-- the device absorbed so many bytes of a chunk; where they are fewer than were offered it takes no more
abbrev pub with_chunk_counted : Transfer → ℕ → ℕ → Transfer
with_chunk_counted t sequence count = record t { sequence = sequence; stopped = t.stopped || nat_lt count t.offered }

-- the bytes of the next chunk count as moved; the answer to the last one may come again, and then nothing is moved
abbrev pub chunk_absorbed : Contents → Transfer → ℕ → ℕ → Transfer
chunk_absorbed storage t sequence count =
    if is_next_chunk t sequence then after_bytes_moved storage (with_chunk_counted t sequence count) (min count (movement.room t.moving)) else t

-- a transfer, with the bytes of its next chunk
abbrev pub with_bytes : Transfer → List ℕ → NextChunk
with_bytes t bytes = record { transfer = t; bytes = bytes }

-- bytes are offered: the transfer takes note of how many
abbrev pub with_bytes_offered : Transfer → List ℕ → NextChunk
with_bytes_offered t bytes = with_bytes (record t { offered = length bytes }) bytes

-- bytes can't be fetched: a check stops the transfer, and none is offered
abbrev pub with_fetch_check : Transfer → Check → NextChunk
with_fetch_check t check = with_bytes (record t { offered = 0; fault = Some check }) []

-- what came of the fetch
abbrev pub with_bytes_fetched : Transfer → Result (List ℕ) Check → NextChunk
with_bytes_fetched t fetched = elim fetched [ Ok bytes ↦ with_bytes_offered t bytes | Err check ↦ with_fetch_check t check ]

-- the bytes at the place that was found; none where the transfer is stopped
abbrev pub chunk_at_place : Contents → Transfer → NextChunk
chunk_at_place storage t =
    if has_stopped t then with_bytes_offered t [] else with_bytes_fetched t (access.copied storage t.walk.orb.key t.moving)

-- the next chunk, once the IDAW that tells its place is fetched where one is needed
abbrev pub next_chunk : Contents → Transfer → NextChunk
next_chunk storage t = chunk_at_place storage (located_transfer storage t)
