-- The numbers of a command stay as its bytes move.
use Rattle.std.proofs.Common.{◌≡◌, refl, ◌∙◌, ℕ, ◌+◌, ◌==◌, Bool, true, false, Option, None, Some, Result, Ok, Err, List, [], length, arith}
use Rattle.std.specs.Prelude.{if◌then◌else◌, is_some, min}
use Rattle.std.proofs.lemmas.Bool.{eqb-true}
use Rattle.ccw_codec.specs.Command.{class_of}
use Rattle.storage_keys.specs.Storage.{Contents}
use Rattle.ccw_walk.specs.declared.check.Check.{Check}
use Rattle.ccw_walk.specs.declared.program.Advance.{Advance}
use Rattle.ccw_walk.specs.declared.program.Advance.TheVariants.{Takes, Suspends, Stops}
use Rattle.ccw_walk.specs.Positions.{WalkPosition, after_acts, after_count_used_up}
use Rattle.ccw_walk.specs.Advancing.{advance_acts, advance_of_acts}
use Rattle.data_move.specs.Moving as movement
use Rattle.data_move.specs.Moving.{Moving}
use Rattle.data_move.specs.Accesses as access
use Rattle.data_move.specs.declared.transfer.Transfer.{Transfer}
use Rattle.data_move.specs.Commands.{command_begins, goes_to, with_located, located_transfer, with_room, brings, begun_with_room, has_stopped}
use Rattle.data_move.specs.FromDevice.{StoredChunk, after_store, fitting_bytes, bytes_brought_in, chunk_stored, nothing_stored}
use Rattle.data_move.specs.DataChaining.{chains_data, with_next_ccw, data_chained, with_bytes_moved, after_bytes_moved}
use Rattle.data_move.specs.ToDevice.{with_chunk_counted, chunk_absorbed, with_bytes_offered, chunk_at_place, next_chunk, with_bytes_fetched}
use Rattle.data_move.specs.Numbers.{IsSame, IsLaterTransfer, IsNew, IfBegins}

-- how a command begins
begins-new : (walk : WalkPosition) (n : ℕ) (a : Option Advance) → IfBegins (command_begins walk n a) (IsNew n)
begins-new walk n None = tt
begins-new walk n (Some (Takes ccw)) = record { command = refl; sequence = refl }
begins-new walk n (Some Suspends) = tt
begins-new walk n (Some (Stops check)) = tt

pub goes_to-new : (storage : Contents) (n : ℕ) (old : WalkPosition) → IfBegins (goes_to storage n old).outcome (IsNew n)
goes_to-new storage n old = begins-new (after_acts old (advance_acts storage old)) n (advance_of_acts old (advance_acts storage old))

-- a room is told, or a chunk given
same : (t : Transfer) → IsSame t t
same t = record { command = refl; sequence = refl }

if-same : (t : Transfer) (b : Bool) (x y : Transfer) → IsSame t x → IsSame t y → IsSame t (if b then x else y)
if-same t true x y e f = e
if-same t false x y e f = f

with_located-same : (t : Transfer) (r : Result Moving Check) → IsSame t (with_located t r)
with_located-same t (Ok moving) = record { command = refl; sequence = refl }
with_located-same t (Err check) = record { command = refl; sequence = refl }

pub located-same : (storage : Contents) (t : Transfer) → IsSame t (located_transfer storage t)
located-same storage t = if-same t (is_some t.fault) t _ (same t) (with_located-same t (access.located storage t.walk.orb.key t.moving))

pub begun-same : (storage : Contents) (t : Transfer) → IsSame t (begun_with_room storage t).transfer
begun-same storage t = begun-by (brings (class_of t.code))
  where
    begun-by : (b : Bool) → IsSame t (if b then with_room storage t else record { transfer = t; room = 0 }).transfer
    begun-by true = located-same storage t
    begun-by false = same t

given_of-same : (t : Transfer) (r : Result (List ℕ) Check) → IsSame t (with_bytes_fetched t r).transfer
given_of-same t (Ok bytes) = record { command = refl; sequence = refl }
given_of-same t (Err check) = record { command = refl; sequence = refl }

chunk_at_place-same : (storage : Contents) (t : Transfer) → IsSame t (chunk_at_place storage t).transfer
chunk_at_place-same storage t = given-by (has_stopped t)
  where
    given-by : (b : Bool) → IsSame t (if b then with_bytes_offered t [] else with_bytes_fetched t (access.copied storage t.walk.orb.key t.moving)).transfer
    given-by true = record { command = refl; sequence = refl }
    given-by false = given_of-same t (access.copied storage t.walk.orb.key t.moving)

pub given-same : (storage : Contents) (t : Transfer) → IsSame t (next_chunk storage t).transfer
given-same storage t =
    let l : IsSame t (located_transfer storage t) = located-same storage t in
    let g : IsSame (located_transfer storage t) (next_chunk storage t).transfer = chunk_at_place-same storage (located_transfer storage t) in
    record { command = g.command ∙ l.command; sequence = g.sequence ∙ l.sequence }

-- bytes are moved
with_next_ccw-same : (t : Transfer) (walk : WalkPosition) (a : Option Advance) → IsSame t (with_next_ccw t walk a)
with_next_ccw-same t walk None = same t
with_next_ccw-same t walk (Some (Takes ccw)) = record { command = refl; sequence = refl }
with_next_ccw-same t walk (Some Suspends) = record { command = refl; sequence = refl }
with_next_ccw-same t walk (Some (Stops check)) = record { command = refl; sequence = refl }

chained-same : (storage : Contents) (t : Transfer) → IsSame t (data_chained storage t)
chained-same storage t =
    with_next_ccw-same t (after_acts (after_count_used_up t.walk) (advance_acts storage (after_count_used_up t.walk)))
    (advance_of_acts (after_count_used_up t.walk) (advance_acts storage (after_count_used_up t.walk)))

after_bytes_moved-same : (storage : Contents) (t : Transfer) (n : ℕ) → IsSame t (after_bytes_moved storage t n)
after_bytes_moved-same storage t n =
    let c : IsSame (with_bytes_moved t n) (data_chained storage (with_bytes_moved t n)) = chained-same storage (with_bytes_moved t n) in
    if-same t (chains_data (with_bytes_moved t n) n) _ _ (record { command = c.command; sequence = c.sequence }) (record { command = refl; sequence = refl })

later-if : (t x : Transfer) (s : ℕ) (b : Bool) → (s == t.sequence + 1) ≡ b → x.command ≡ t.command → x.sequence ≡ s → IsLaterTransfer t (if b then x else t)
later-if t x s true e c q = record { command = c; sequence = omega (arith, eqb-true s (t.sequence + 1) e, q) }
later-if t x s false e c q = record { command = refl; sequence = omega arith }

pub absorbed-later : (storage : Contents) (t : Transfer) (s count : ℕ) → IsLaterTransfer t (chunk_absorbed storage t s count)
absorbed-later storage t s count =
    let m : IsSame (with_chunk_counted t s count) (after_bytes_moved storage (with_chunk_counted t s count) (min count (movement.room t.moving))) =
    after_bytes_moved-same storage (with_chunk_counted t s count) (min count (movement.room t.moving)) in
    later-if t _ s (s == t.sequence + 1) refl m.command m.sequence

-- bytes are brought
after_store-same : (storage : Contents) (t : Transfer) (n : ℕ) (r : Result Contents Check) → IsSame t (after_store storage t n r).transfer
after_store-same storage t n (Ok after) = after_bytes_moved-same after t n
after_store-same storage t n (Err check) = record { command = refl; sequence = refl }

bytes_brought_in-same : (storage : Contents) (t : Transfer) (bytes : List ℕ) → IsSame t (bytes_brought_in storage t bytes).transfer
bytes_brought_in-same storage t bytes = brought-by (is_some t.fault)
  where
    brought-by : (b : Bool) →
        IsSame t (if b then nothing_stored storage t else after_store storage t (length bytes) (access.stored_or_skipped storage t.walk.orb.key t.moving bytes)).transfer
    brought-by true = same t
    brought-by false = after_store-same storage t (length bytes) (access.stored_or_skipped storage t.walk.orb.key t.moving bytes)

brought-if : (storage : Contents) (t : Transfer) (x : StoredChunk) (s : ℕ) (b : Bool) → (s == t.sequence + 1) ≡ b → x.transfer.command ≡ t.command → x.transfer.sequence ≡ s →
    IsLaterTransfer t (if b then x else nothing_stored storage t).transfer
brought-if storage t x s true e c q = record { command = c; sequence = omega (arith, eqb-true s (t.sequence + 1) e, q) }
brought-if storage t x s false e c q = record { command = refl; sequence = omega arith }

pub brought-later : (storage : Contents) (t : Transfer) (s : ℕ) (bytes : List ℕ) → IsLaterTransfer t (chunk_stored storage t s bytes).transfer
brought-later storage t s bytes =
    let m : IsSame (record t { sequence = s }) (bytes_brought_in storage (record t { sequence = s }) (fitting_bytes t bytes)).transfer =
    bytes_brought_in-same storage (record t { sequence = s }) (fitting_bytes t bytes) in
    brought-if storage t (bytes_brought_in storage (record t { sequence = s }) (fitting_bytes t bytes)) s (s == t.sequence + 1) refl m.command m.sequence
