-- What is done for a program, act by act, as the subsystem begins its commands and moves their bytes (SA22-7832, chapter
-- 15).
use Rattle.std.specs.Prelude.{ℕ, ◌+◌, ◌==◌, Bool, true, min, if◌then◌else◌, is_some, Option, None, Some, List, ◌∷◌, ◌++◌, length, Result, Ok, Err, []}
use Rattle.ccw_codec.specs.Command.{class_of}
use Rattle.storage_keys.specs.Storage.{Contents}
use Rattle.ccw_walk.specs.declared.check.Check.{Check}
use Rattle.ccw_walk.specs.declared.program.Ended.{Ended}
use Rattle.ccw_walk.specs.Sequences.{Sequence, Nothing, ◌▸◌, ◌▸▸◌}
use Rattle.ccw_walk.specs.Acts.{Act, PlacedBytes, Used_up, End, Word}
use Rattle.ccw_walk.specs.Positions.{WalkPosition, after_count_used_up, after_command_end}
use Rattle.ccw_walk.specs.Advancing.{advance_acts}
use Rattle.idaw.specs.declared.WordFault.{WordFault}
use Rattle.idaw.specs.Lists.{word_fault}
use Rattle.idaw.specs.Places.{each_below}
use Rattle.data_move.specs.Moving.{Moving, needs_word, next_place, room}
use Rattle.data_move.specs.Accesses as access
use Rattle.run_laws.specs.Traces.{CommandTrace}
use Rattle.data_move.specs.declared.transfer.Transfer.{Transfer}
use Rattle.data_move.specs.declared.transfer.CommandStart.{CommandStart}
use Rattle.data_move.specs.declared.transfer.CommandStart.TheVariants.{Begins, Suspends, Stops}
use Rattle.data_move.specs.Commands.{goes_to, located_transfer, has_stopped, brings}
use Rattle.data_move.specs.FromDevice.{StoredChunk, fitting_bytes, chunk_stored}
use Rattle.data_move.specs.DataChaining.{with_bytes_moved, chains_data}
use Rattle.data_move.specs.ToDevice.{with_chunk_counted, chunk_absorbed, next_chunk}

-- a word of an indirect list is fetched where it is needed
abbrev pub act_of_right : Option WordFault → ℕ → Sequence Act
act_of_right None word = Nothing ▸ Word word
act_of_right (Some fault) word = Nothing

abbrev pub act_of_word : Moving → ℕ → Result ℕ Check → Sequence Act
act_of_word m size (Ok word) = act_of_right (word_fault m.kind (m.words == 0) word size) word
act_of_word m size (Err check) = Nothing

abbrev pub word_acts : Contents → ℕ → Moving → Sequence Act
word_acts storage key m = if needs_word m then act_of_word m (length storage.bytes) (access.word_fetched storage key m) else Nothing

abbrev pub located_acts : Contents → Transfer → Sequence Act
located_acts storage t = if is_some t.fault then Nothing else word_acts storage t.walk.orb.key t.moving

-- a command begins from a place: its blocks, and the word of a read that is told at once how many bytes may come
abbrev pub room_acts : Contents → CommandStart → Sequence Act
room_acts storage (Begins t) = if brings (class_of t.code) then located_acts storage t else Nothing
room_acts storage Suspends = Nothing
room_acts storage (Stops check) = Nothing

abbrev pub goes_acts : Contents → ℕ → WalkPosition → Sequence Act
goes_acts storage n old = advance_acts storage old ▸▸ room_acts storage (goes_to storage n old).outcome

abbrev pub first_acts : Contents → WalkPosition → Sequence Act
first_acts storage walk = goes_acts storage 1 walk

abbrev pub next_acts : Contents → Transfer → Bool → Sequence Act
next_acts storage t modifier =
    let ended : Ended = record { goes_on = true; modifier = modifier } in
    Nothing ▸ End ended ▸▸ goes_acts storage (t.command + 1) (after_command_end t.walk ended)

-- data is chained
abbrev pub chained_acts : Contents → Transfer → Sequence Act
chained_acts storage t = Nothing ▸ Used_up ▸▸ advance_acts storage (after_count_used_up t.walk)

abbrev pub with_acts : CommandTrace → Sequence Act → CommandTrace
with_acts k acts = record k { acts = k.acts ▸▸ acts }

-- so many of the next bytes are moved
abbrev pub with_places : CommandTrace → Moving → ℕ → CommandTrace
with_places k m n = record k { moved = k.moved ++ each_below (next_place m) n }

abbrev pub trace_moved_on : Contents → Transfer → ℕ → CommandTrace → CommandTrace
trace_moved_on storage t n k =
    if chains_data (with_bytes_moved t n) n then with_acts (with_places k t.moving n) (chained_acts storage (with_bytes_moved t n))
    else with_places k t.moving n

-- the next bytes, as storage has them
abbrev pub chunk_of : Contents → Moving → List ℕ → PlacedBytes
chunk_of storage m bytes = record { storage = storage.bytes; places = each_below (next_place m) (length bytes); bytes = bytes }

-- the answer of a device that absorbed bytes of chunk s
abbrev pub trace_answered : Contents → Transfer → ℕ → ℕ → CommandTrace → CommandTrace
trace_answered storage t s count k =
    if s == t.sequence + 1 then trace_moved_on storage (with_chunk_counted t s count) (min count (room t.moving)) k else k

-- the next chunk is copied for the device
abbrev pub with_copy : Contents → Transfer → Result (List ℕ) Check → CommandTrace → CommandTrace
with_copy storage t (Ok bytes) k = record k { copied = k.copied ++ chunk_of storage t.moving bytes ∷ [] }
with_copy storage t (Err check) k = k

abbrev pub copying : Contents → Transfer → CommandTrace → CommandTrace
copying storage t k = if has_stopped t then k else with_copy storage t (access.copied storage t.walk.orb.key t.moving) k

abbrev pub trace_giving : Contents → Transfer → CommandTrace → CommandTrace
trace_giving storage t k = copying storage (located_transfer storage t) (with_acts k (located_acts storage t))

-- what is kept of the transfer
abbrev pub marked : Transfer → CommandTrace → CommandTrace
marked t k = record k { sequence = t.sequence; given = t.offered; stopped = t.stopped; stopped_by_check = is_some t.fault; ended = t.ended; unchained = t.unchained }

-- a Data of a command that takes bytes to the device
abbrev pub gives : Contents → Transfer → ℕ → ℕ → CommandTrace → CommandTrace
gives storage t s count k =
    marked (next_chunk storage (chunk_absorbed storage t s count)).transfer (trace_giving storage (chunk_absorbed storage t s count) (trace_answered storage t s count k))

-- the bytes of chunk s of a read are stored
abbrev pub with_arrival : Contents → Transfer → List ℕ → Result Contents Check → CommandTrace → CommandTrace
with_arrival storage t bytes (Ok after) k =
    trace_moved_on after t (length bytes) (record k { arrived = k.arrived ++ record { former = storage.bytes; chunk = chunk_of after t.moving bytes } ∷ [] })
with_arrival storage t bytes (Err check) k = k

abbrev pub storing : Contents → Transfer → List ℕ → CommandTrace → CommandTrace
storing storage t bytes k =
    if is_some t.fault then k else with_arrival storage t bytes (access.stored_or_skipped storage t.walk.orb.key t.moving bytes) k

abbrev pub arriving : Contents → Transfer → ℕ → List ℕ → CommandTrace → CommandTrace
arriving storage t s bytes k = if s == t.sequence + 1 then storing storage (record t { sequence = s }) (fitting_bytes t bytes) k else k

-- a Data of a command that brings bytes in
abbrev pub located_after : StoredChunk → CommandTrace → CommandTrace
located_after x k = with_acts k (located_acts x.storage x.transfer)

abbrev pub takes_in : Contents → Transfer → ℕ → List ℕ → CommandTrace → CommandTrace
takes_in storage t s bytes k =
    marked (located_transfer (chunk_stored storage t s bytes).storage (chunk_stored storage t s bytes).transfer) (located_after (chunk_stored storage t s bytes) (arriving storage t s bytes k))
