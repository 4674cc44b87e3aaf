-- Bytes that move, and rooms that are told, leave whether the next command is chained to.
use Rattle.std.proofs.Common.{◌≡◌, refl, ◌∙◌, ℕ, ◌+◌, ◌==◌, Bool, true, false, Option, Some, Result, Ok, Err, List, [], length}
use Rattle.std.specs.Prelude.{if◌then◌else◌, is_some, min}
use Rattle.storage_keys.specs.Storage.{Contents}
use Rattle.ccw_walk.specs.declared.check.Check.{Check}
use Rattle.ccw_walk.specs.declared.program.Advance.{Advance}
use Rattle.ccw_walk.specs.declared.program.Advance.TheVariants.{Takes}
use Rattle.ccw_walk.specs.Positions.{WalkPosition, after_acts, after_count_used_up}
use Rattle.ccw_walk.specs.Advancing.{advance_acts, advance_of_acts}
use Rattle.data_move.specs.Moving as movement
use Rattle.data_move.specs.Moving.{Moving}
use Rattle.data_move.specs.Accesses as access
use Rattle.data_move.specs.declared.transfer.Transfer.{Transfer}
use Rattle.data_move.specs.Commands.{with_located, located_transfer, with_room, has_stopped}
use Rattle.data_move.specs.FromDevice.{StoredChunk, after_store, fitting_bytes, bytes_brought_in, chunk_stored, nothing_stored}
use Rattle.data_move.specs.DataChaining.{chains_data, with_next_ccw, data_chained, with_bytes_moved, after_bytes_moved}
use Rattle.data_move.specs.ToDevice.{with_chunk_counted, chunk_absorbed, with_bytes_offered, chunk_at_place, next_chunk, with_bytes_fetched}

abbrev pub IsSame : Transfer → Transfer → Type 0
IsSame t x = x.unchained ≡ t.unchained

if-same : (t : Transfer) (b : Bool) (x y : Transfer) → IsSame t x → IsSame t y → IsSame t (if b then x else y)
if-same t true x y e f = e
if-same t false x y e f = f

with_located-same : (t : Transfer) (r : Result Moving Check) → IsSame t (with_located t r)
with_located-same t (Ok moving) = refl
with_located-same t (Err check) = refl

pub located-same : (storage : Contents) (t : Transfer) → IsSame t (located_transfer storage t)
located-same storage t = if-same t (is_some t.fault) t _ refl (with_located-same t (access.located storage t.walk.orb.key t.moving))

given_of-same : (t : Transfer) (r : Result (List ℕ) Check) → IsSame t (with_bytes_fetched t r).transfer
given_of-same t (Ok bytes) = refl
given_of-same t (Err check) = refl

chunk_at_place-same : (storage : Contents) (t : Transfer) → IsSame t (chunk_at_place storage t).transfer
chunk_at_place-same storage t = given-by (has_stopped t)
  where
    given-by : (b : Bool) → IsSame t (if b then with_bytes_offered t [] else with_bytes_fetched t (access.copied storage t.walk.orb.key t.moving)).transfer
    given-by true = refl
    given-by false = given_of-same t (access.copied storage t.walk.orb.key t.moving)

given-same : (storage : Contents) (t : Transfer) → IsSame t (next_chunk storage t).transfer
given-same storage t = chunk_at_place-same storage (located_transfer storage t) ∙ located-same storage t

with_next_ccw-same : (t : Transfer) (walk : WalkPosition) (a : Option Advance) → IsSame t (with_next_ccw t walk a)
with_next_ccw-same t walk (Some (Takes ccw)) = refl
with_next_ccw-same t walk other = refl

chained-same : (storage : Contents) (t : Transfer) → IsSame t (data_chained storage t)
chained-same storage t =
    with_next_ccw-same t (after_acts (after_count_used_up t.walk) (advance_acts storage (after_count_used_up t.walk)))
    (advance_of_acts (after_count_used_up t.walk) (advance_acts storage (after_count_used_up t.walk)))

after_bytes_moved-same : (storage : Contents) (t : Transfer) (n : ℕ) → IsSame t (after_bytes_moved storage t n)
after_bytes_moved-same storage t n = if-same t (chains_data (with_bytes_moved t n) n) _ _ (chained-same storage (with_bytes_moved t n)) refl

absorbed-same : (storage : Contents) (t : Transfer) (s count : ℕ) → IsSame t (chunk_absorbed storage t s count)
absorbed-same storage t s count =
    if-same t (s == t.sequence + 1) _ t (after_bytes_moved-same storage (with_chunk_counted t s count) (min count (movement.room t.moving))) refl

after_store-same : (storage : Contents) (t : Transfer) (n : ℕ) (r : Result Contents Check) → IsSame t (after_store storage t n r).transfer
after_store-same storage t n (Ok after) = after_bytes_moved-same after t n
after_store-same storage t n (Err check) = refl

bytes_brought_in-same : (storage : Contents) (t : Transfer) (bytes : List ℕ) → IsSame t (bytes_brought_in storage t bytes).transfer
bytes_brought_in-same storage t bytes = brought-by (is_some t.fault)
  where
    brought-by : (b : Bool) →
        IsSame t (if b then nothing_stored storage t else after_store storage t (length bytes) (access.stored_or_skipped storage t.walk.orb.key t.moving bytes)).transfer
    brought-by true = refl
    brought-by false = after_store-same storage t (length bytes) (access.stored_or_skipped storage t.walk.orb.key t.moving bytes)

brought-if : (storage : Contents) (t : Transfer) (x : StoredChunk) (b : Bool) → IsSame t x.transfer → IsSame t (if b then x else nothing_stored storage t).transfer
brought-if storage t x true e = e
brought-if storage t x false e = refl

brought-same : (storage : Contents) (t : Transfer) (s : ℕ) (bytes : List ℕ) → IsSame t (chunk_stored storage t s bytes).transfer
brought-same storage t s bytes =
    brought-if storage t (bytes_brought_in storage (record t { sequence = s }) (fitting_bytes t bytes)) (s == t.sequence + 1)
    (bytes_brought_in-same storage (record t { sequence = s }) (fitting_bytes t bytes))

-- what answers a Data
pub giving-same : (storage : Contents) (t : Transfer) (s count : ℕ) → IsSame t (next_chunk storage (chunk_absorbed storage t s count)).transfer
giving-same storage t s count = given-same storage (chunk_absorbed storage t s count) ∙ absorbed-same storage t s count

pub taking-same : (storage : Contents) (t : Transfer) (s : ℕ) (bytes : List ℕ) →
    IsSame t (with_room (chunk_stored storage t s bytes).storage (chunk_stored storage t s bytes).transfer).transfer
taking-same storage t s bytes = located-same (chunk_stored storage t s bytes).storage (chunk_stored storage t s bytes).transfer ∙ brought-same storage t s bytes
