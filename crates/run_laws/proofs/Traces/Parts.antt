-- What is done for a program with each signal, and what is kept of its transfer.
use Rattle.std.proofs.Common.{◌≡◌, refl, ap, sym, ◌∙◌, subst, ℕ, ◌+◌, ◌≤◌, Bool, true, false, List, [], ◌∷◌, ◌++◌, length, Option, Some, None, Result, Ok, Err, inl, inr, arith, append-nil, length-append}
use Rattle.std.proofs.lemmas.Grind.{flat_map-append}
use Rattle.std.specs.Prelude.{◌&&◌, ◌||◌, not, ◌==◌, min, is_some, if◌then◌else◌, All, take}
use Rattle.std.proofs.lemmas.Bool.{eqb-true}
use Rattle.std.proofs.lemmas.List.{length-take}
use Rattle.std.proofs.lemmas.List.Elements.{All-nil, All-push}
use Rattle.std.proofs.Math.Nat.{min-le_left, min-le_right}
use Rattle.orb_block.specs.declared.Orb.{Orb}
use Rattle.ccw_codec.specs.Command.{class_of}
use Rattle.storage_keys.specs.Storage.{Contents}
use Rattle.ccw_walk.specs.declared.check.Check.{Check}
use Rattle.ccw_walk.specs.declared.program.Advance.{Advance}
use Rattle.ccw_walk.specs.declared.program.Advance.TheVariants as advance
use Rattle.ccw_walk.specs.Sequences.{Sequence, Nothing, ◌▸◌, ◌▸▸◌, count}
use Rattle.ccw_walk.specs.Acts.{Act}
use Rattle.ccw_walk.specs.Programs.{IsProgram, Command, role_of, next, commands, code}
use Rattle.ccw_walk.specs.Positions.{WalkPosition, walk_position, after_acts, after_count_used_up}
use Rattle.ccw_walk.specs.Advancing.{advance_acts, advance_of_acts}
use Rattle.idaw.specs.declared.WordFault.{WordFault}
use Rattle.idaw.specs.Lists.{word_fault}
use Rattle.idaw.specs.Places.{each_below}
use Rattle.data_move.specs.Moving.{Moving, next_place, room, needs_word}
use Rattle.data_move.specs.Accesses as access
use Rattle.data_move.specs.declared.transfer.Transfer.{Transfer}
use Rattle.data_move.specs.declared.transfer.Beginning.{Beginning}
use Rattle.data_move.specs.declared.transfer.CommandStart.{CommandStart}
use Rattle.data_move.specs.declared.transfer.CommandStart.TheVariants as outcome
use Rattle.data_move.specs.Commands.{goes_to, located_transfer, with_located, begun_with_room, with_room, brings, has_stopped}
use Rattle.data_move.specs.DataChaining.{chains_data, with_next_ccw, data_chained, with_bytes_moved, after_bytes_moved}
use Rattle.data_move.specs.ToDevice.{with_chunk_counted, chunk_absorbed, with_bytes_offered, chunk_at_place, next_chunk, with_bytes_fetched}
use Rattle.data_move.specs.FromDevice.{after_store, bytes_brought_in, chunk_stored, fitting_bytes}
use Rattle.run_laws.specs.DataAreas.{data_areas}
use Rattle.run_laws.proofs.Traces.MachineActs as doing
use Rattle.run_laws.specs.Traces.{CommandTrace, Arrival}
use Rattle.run_laws.proofs.Traces.MachineActs.{with_acts, with_places, with_copy, located_acts, room_acts, goes_acts, chunk_of, chained_acts, trace_answered, trace_giving, gives, with_arrival, storing, arriving, takes_in}
use Rattle.run_laws.specs.ProgramClaims.{IsSuspended, IsStored, places_arrived, IsBeginning, places_of, has_check, EndsAtCheck, IsWhole}
use Rattle.run_laws.proofs.Bytes.Lists.{length-each_below}
use Rattle.run_laws.proofs.Bytes.Accesses.{AreAccesses, IsStore, stored-bytes}
use Rattle.run_laws.proofs.Traces.Ties.{AreLaws, IsFresh, Tied, changed, spot-begins, Begins, goes-begins, located-tied, room-tied}
use Rattle.run_laws.specs.Reached.{room_of, BeginsData}
use Rattle.run_laws.proofs.Bytes.Kept.{room-same as reached-room, short-same, located-kept}
use Rattle.run_laws.proofs.Bytes.Chainings.{after_bytes_moved-tied}
use Rattle.run_laws.proofs.Traces.Sequences.{joined-in-order}

-- the command at work and its code stay
abbrev pub IsSame : Transfer → Transfer → Type 0
IsSame t u = (u.code ≡ t.code) × (u.command ≡ t.command)

same-trans : (t u v : Transfer) → IsSame t u → IsSame u v → IsSame t v
same-trans t u v a b = (b.0 ∙ a.0, b.1 ∙ a.1)

with_next_ccw-same : (t : Transfer) (walk : WalkPosition) (a : Option Advance) → IsSame t (with_next_ccw t walk a)
with_next_ccw-same t walk (Some (advance.Takes ccw)) = (refl, refl)
with_next_ccw-same t walk other = (refl, refl)

chained-same : (storage : Contents) (t : Transfer) → IsSame t (data_chained storage t)
chained-same storage t =
    let old : WalkPosition = after_count_used_up t.walk in
    with_next_ccw-same t (after_acts old (advance_acts storage old)) (advance_of_acts old (advance_acts storage old))

after_bytes_moved-if : (storage : Contents) (t : Transfer) (n : ℕ) (b : Bool) → IsSame t (if b then data_chained storage (with_bytes_moved t n) else with_bytes_moved t n)
after_bytes_moved-if storage t n true = chained-same storage (with_bytes_moved t n)
after_bytes_moved-if storage t n false = (refl, refl)

pub after_bytes_moved-same : (storage : Contents) (t : Transfer) (n : ℕ) → IsSame t (after_bytes_moved storage t n)
after_bytes_moved-same storage t n = after_bytes_moved-if storage t n (chains_data (with_bytes_moved t n) n)

with_located-same : (t : Transfer) (r : Result Moving Check) → IsSame t (with_located t r)
with_located-same t (Ok m) = (refl, refl)
with_located-same t (Err check) = (refl, refl)

located-if : (t : Transfer) (r : Result Moving Check) (b : Bool) → IsSame t (if b then t else with_located t r)
located-if t r true = (refl, refl)
located-if t r false = with_located-same t r

pub located-same : (storage : Contents) (t : Transfer) → IsSame t (located_transfer storage t)
located-same storage t = located-if t (access.located storage t.walk.orb.key t.moving) (is_some t.fault)

room-if : (storage : Contents) (t : Transfer) (b : Bool) → IsSame t (if b then with_room storage t else record { transfer = t; room = 0 }).transfer
room-if storage t true = located-same storage t
room-if storage t false = (refl, refl)

pub room-same : (storage : Contents) (t : Transfer) → IsSame t (begun_with_room storage t).transfer
room-same storage t = room-if storage t (brings (class_of t.code))

absorbed-if : (storage : Contents) (t : Transfer) (s count : ℕ) (b : Bool) →
    IsSame t (if b then after_bytes_moved storage (with_chunk_counted t s count) (min count (room t.moving)) else t)
absorbed-if storage t s count true = after_bytes_moved-same storage (with_chunk_counted t s count) (min count (room t.moving))
absorbed-if storage t s count false = (refl, refl)

pub absorbed-same : (storage : Contents) (t : Transfer) (s count : ℕ) → IsSame t (chunk_absorbed storage t s count)
absorbed-same storage t s count = absorbed-if storage t s count (s == t.sequence + 1)

given_of-same : (t : Transfer) (r : Result (List ℕ) Check) → IsSame t (with_bytes_fetched t r).transfer
given_of-same t (Ok bytes) = (refl, refl)
given_of-same t (Err check) = (refl, refl)

given-if : (t : Transfer) (r : Result (List ℕ) Check) (b : Bool) → IsSame t (if b then with_bytes_offered t [] else with_bytes_fetched t r).transfer
given-if t r true = (refl, refl)
given-if t r false = given_of-same t r

given-same : (storage : Contents) (t : Transfer) → IsSame t (chunk_at_place storage t).transfer
given-same storage t = given-if t (access.copied storage t.walk.orb.key t.moving) (has_stopped t)

pub next_chunk-same : (storage : Contents) (t : Transfer) → IsSame t (next_chunk storage t).transfer
next_chunk-same storage t = same-trans t (located_transfer storage t) (next_chunk storage t).transfer (located-same storage t) (given-same storage (located_transfer storage t))

after_store-same : (storage : Contents) (t : Transfer) (n : ℕ) (r : Result Contents Check) → IsSame t (after_store storage t n r).transfer
after_store-same storage t n (Ok after) = after_bytes_moved-same after t n
after_store-same storage t n (Err check) = (refl, refl)

brought-in-if : (storage : Contents) (t : Transfer) (n : ℕ) (r : Result Contents Check) (b : Bool) →
    IsSame t (if b then record { transfer = t; storage = storage } else after_store storage t n r).transfer
brought-in-if storage t n r true = (refl, refl)
brought-in-if storage t n r false = after_store-same storage t n r

brought-if : (storage : Contents) (t : Transfer) (s : ℕ) (bytes : List ℕ) (b : Bool) →
    IsSame t (if b then bytes_brought_in storage (record t { sequence = s }) (fitting_bytes t bytes) else record { transfer = t; storage = storage }).transfer
brought-if storage t s bytes true =
    brought-in-if storage (record t { sequence = s }) (length (fitting_bytes t bytes)) (access.stored_or_skipped storage t.walk.orb.key t.moving (fitting_bytes t bytes)) (is_some t.fault)
brought-if storage t s bytes false = (refl, refl)

pub brought-same : (storage : Contents) (t : Transfer) (s : ℕ) (bytes : List ℕ) → IsSame t (chunk_stored storage t s bytes).transfer
brought-same storage t s bytes = brought-if storage t s bytes (s == t.sequence + 1)

-- a fault stays, and so does the place of the Data that came last
abbrev pub IsThrough : Transfer → Transfer → Type 0
IsThrough t u = (u.sequence ≡ t.sequence) × (u.fault ≡ None → t.fault ≡ None)

with_next_ccw-through : (t : Transfer) (walk : WalkPosition) (a : Option Advance) → IsThrough t (with_next_ccw t walk a)
with_next_ccw-through t walk (Some (advance.Takes ccw)) = (refl, λ e. e)
with_next_ccw-through t walk (Some advance.Suspends) = (refl, λ e. absurd (cc e))
with_next_ccw-through t walk (Some (advance.Stops check)) = (refl, λ e. absurd (cc e))
with_next_ccw-through t walk None = (refl, λ e. e)

pub after_bytes_moved-through : (storage : Contents) (t : Transfer) (n : ℕ) (b : Bool) → IsThrough t (if b then data_chained storage (with_bytes_moved t n) else with_bytes_moved t n)
after_bytes_moved-through storage t n true =
    let old : WalkPosition = after_count_used_up t.walk in
    with_next_ccw-through (with_bytes_moved t n) (after_acts old (advance_acts storage old)) (advance_of_acts old (advance_acts storage old))
after_bytes_moved-through storage t n false = (refl, λ e. e)

pub located-through : (t : Transfer) (r : Result Moving Check) (b : Bool) → IsThrough t (if b then t else with_located t r)
located-through t r true = (refl, λ e. e)
located-through t (Ok m) false = (refl, λ e. e)
located-through t (Err check) false = (refl, λ e. absurd (cc e))

room-through : (storage : Contents) (t : Transfer) (b : Bool) → IsThrough t (if b then with_room storage t else record { transfer = t; room = 0 }).transfer
room-through storage t true = located-through t (access.located storage t.walk.orb.key t.moving) (is_some t.fault)
room-through storage t false = (refl, λ e. e)

pub room-seq : (storage : Contents) (t : Transfer) → (begun_with_room storage t).transfer.sequence ≡ t.sequence
room-seq storage t = (room-through storage t (brings (class_of t.code))).0

-- nothing is moved, shown or ended as a word is fetched
located-fresh : (t : Transfer) (b : Bool) (r : Result Moving Check) → IsFresh t → IsFresh (if b then t else with_located t r)
located-fresh t true r f = f
located-fresh t false (Ok m) f = f
located-fresh t false (Err check) f = f

fresh-if : (storage : Contents) (t : Transfer) (b : Bool) → IsFresh t → IsFresh (if b then with_room storage t else record { transfer = t; room = 0 }).transfer
fresh-if storage t true f = located-fresh t (is_some t.fault) (access.located storage t.walk.orb.key t.moving) f
fresh-if storage t false f = f

pub room-fresh : (storage : Contents) (t : Transfer) → IsFresh t → IsFresh (begun_with_room storage t).transfer
room-fresh storage t f = fresh-if storage t (brings (class_of t.code)) f

-- what arrived, by the direction of the command: without a fault each Data of a read as far as the last that came
abbrev pub HasArrived : CommandTrace → Option Check → ℕ → Bool → Type 0
HasArrived p fault last true = p.arrived ≡ []
HasArrived p fault last false = All IsStored p.arrived × (places_arrived p.arrived ≡ p.moved) × (fault ≡ None → last ≡ length p.arrived)

places-arrived : (xs : List Arrival) (a : Arrival) → places_arrived (xs ++ a ∷ []) ≡ places_arrived xs ++ a.chunk.places
places-arrived xs a = flat_map-append (λ (x : Arrival). x.chunk.places) xs (a ∷ []) ∙ ap (λ (ys : List (Option ℕ)). places_arrived xs ++ ys) (append-nil a.chunk.places)

pub arrived-none : (p : CommandTrace) (fault : Option Check) (last : ℕ) (d : Bool) → p.arrived ≡ [] → p.moved ≡ [] → last ≡ 0 → HasArrived p fault last d
arrived-none p fault last true e f z = e
arrived-none p fault last false e f z =
    (subst (λ (xs : List Arrival). All IsStored xs) (sym e) (All-nil IsStored), ap places_arrived e ∙ sym f, λ n. z ∙ sym (ap length e))

-- what holds of a program, at work or over
pub record IsDone (orb : Orb) (p : CommandTrace) : Type 0 where
  pub program : IsProgram orb p.acts
  pub whole : IsWhole orb p.acts
  pub ends : EndsAtCheck orb p.acts
  pub moves : IsBeginning p.moved (places_of orb p.acts)
  pub arrived : All IsStored p.arrived
  pub arrives : IsBeginning (places_arrived p.arrived) (places_of orb p.acts)

pub room-left : (t : Transfer) (n : ℕ) → min n (room t.moving) ≤ t.moving.left
room-left t n =
    let f : min n (room t.moving) ≤ room t.moving = min-le_right n (room t.moving) in
    let g : room t.moving ≤ t.moving.left = min-le_left t.moving.left 256 in
    omega (arith, f, g)

-- bytes that are moved
pub fitting-left : (t : Transfer) (bytes : List ℕ) → length (fitting_bytes t bytes) ≤ t.moving.left
fitting-left t bytes =
    let e : length (take (room t.moving) bytes) ≡ min (room t.moving) (length bytes) = length-take (room t.moving) bytes in
    let f : min (room t.moving) (length bytes) ≤ room t.moving = min-le_left (room t.moving) (length bytes) in
    let g : room t.moving ≤ t.moving.left = min-le_left t.moving.left 256 in
    omega (arith, e, f, g)

pub after_bytes_moved-parts : (storage : Contents) (t : Transfer) (n : ℕ) (p : CommandTrace) (b : Bool) →
    let q : CommandTrace = if b then with_acts (with_places p t.moving n) (chained_acts storage (with_bytes_moved t n)) else with_places p t.moving n in
    (_ : q.moved ≡ p.moved ++ each_below (next_place t.moving) n) × (q.arrived ≡ p.arrived)
after_bytes_moved-parts storage t n p true = (refl, refl)
after_bytes_moved-parts storage t n p false = (refl, refl)

-- so many commands were sent under earlier numbers
module _ (earlier : ℕ) where
  -- what is done, and what is kept of the transfer
  pub record IsAtWork (orb : Orb) (p : CommandTrace) (t : Transfer) (d : Bool) : Type 0 where
    pub tied : Tied earlier orb p.acts p.moved t
    pub arrived : HasArrived p t.fault t.sequence d

  -- the next Data of a read came, and none of it is stored yet
  record IsNext (orb : Orb) (p : CommandTrace) (t : Transfer) : Type 0 where
    pub tied : Tied earlier orb p.acts p.moved t
    pub stored : All IsStored p.arrived
    pub places : places_arrived p.arrived ≡ p.moved
    pub next : t.fault ≡ None → t.sequence ≡ length p.arrived + 1

  pub done-of : (orb : Orb) (p : CommandTrace) (t : Transfer) (d : Bool) → IsAtWork orb p t d → IsDone orb p
  done-of orb p t true k =
      let none : p.arrived ≡ [] = k.arrived in
      record {
        program = k.tied.program;
        whole = inr (inl k.tied.stands);
        ends = k.tied.ends;
        moves = spot-begins orb (data_areas orb p.acts) t p.moved k.tied.spot;
        arrived = subst (λ (xs : List Arrival). All IsStored xs) (sym none) (All-nil IsStored);
        arrives = subst (λ (xs : List Arrival). IsBeginning (places_arrived xs) (places_of orb p.acts)) (sym none) (places_of orb p.acts, refl);
      }
  done-of orb p t false k =
      let same : places_arrived p.arrived ≡ p.moved = k.arrived.1 in
      record {
        program = k.tied.program;
        whole = inr (inl k.tied.stands);
        ends = k.tied.ends;
        moves = spot-begins orb (data_areas orb p.acts) t p.moved k.tied.spot;
        arrived = k.arrived.0;
        arrives = subst (λ (xs : List (Option ℕ)). IsBeginning xs (places_of orb p.acts)) (sym same) (spot-begins orb (data_areas orb p.acts) t p.moved k.tied.spot);
      }

  module _ (laws : AreLaws) where
    after_bytes_moved-out : (storage : Contents) (orb : Orb) (p : CommandTrace) (t : Transfer) (n : ℕ) → n ≤ t.moving.left → IsAtWork orb p t true →
        IsAtWork orb (doing.trace_moved_on storage t n p) (after_bytes_moved storage t n) true
    after_bytes_moved-out storage orb p t n l k = record {
      tied = after_bytes_moved-tied laws earlier storage orb p t n l k.tied;
      arrived = (after_bytes_moved-parts storage t n p (chains_data (with_bytes_moved t n) n)).1 ∙ k.arrived;
    }

    -- a Data of a command that takes bytes to the device
    pub answer-tied : (orb : Orb) (p : CommandTrace) (t : Transfer) (s count : ℕ) → IsAtWork orb p t true → IsAtWork orb p (with_chunk_counted t s count) true
    answer-tied orb p t s count k = record {
      tied = changed earlier orb p.acts p.moved t (with_chunk_counted t s count) refl refl refl refl (λ e. e) (λ e. e) k.tied;
      arrived = k.arrived;
    }

    pub answer-by : (storage : Contents) (orb : Orb) (p : CommandTrace) (t : Transfer) (s count : ℕ) (b : Bool) → IsAtWork orb p t true →
        IsAtWork orb (if b then doing.trace_moved_on storage (with_chunk_counted t s count) (min count (room t.moving)) p else p)
        (if b then after_bytes_moved storage (with_chunk_counted t s count) (min count (room t.moving)) else t) true
    answer-by storage orb p t s count true k = after_bytes_moved-out storage orb p (with_chunk_counted t s count) (min count (room t.moving)) (room-left t count) (answer-tied orb p t s count k)
    answer-by storage orb p t s count false k = k

    pub located-work : (storage : Contents) (orb : Orb) (p : CommandTrace) (t : Transfer) (d : Bool) → IsAtWork orb p t d →
        IsAtWork orb (with_acts p (located_acts storage t)) (located_transfer storage t) d
    located-work storage orb p t true k = record { tied = located-tied earlier laws storage orb p.acts p.moved t k.tied; arrived = k.arrived }
    located-work storage orb p t false k =
        let x : IsThrough t (located_transfer storage t) = located-through t (access.located storage t.walk.orb.key t.moving) (is_some t.fault) in
        record {
          tied = located-tied earlier laws storage orb p.acts p.moved t k.tied;
          arrived = (k.arrived.0, k.arrived.1, λ e. x.0 ∙ k.arrived.2 (x.1 e));
        }

    given-by : (storage : Contents) (orb : Orb) (p : CommandTrace) (t : Transfer) (r : Result (List ℕ) Check) → IsAtWork orb p t true →
        IsAtWork orb (with_copy storage t r p) (with_bytes_fetched t r).transfer true
    given-by storage orb p t (Ok bytes) k = record {
      tied = changed earlier orb p.acts p.moved t (with_bytes_fetched t (Ok bytes)).transfer refl refl refl refl (λ e. e) (λ e. e) k.tied;
      arrived = k.arrived;
    }
    given-by storage orb p t (Err check) k = record {
      tied = changed earlier orb p.acts p.moved t (with_bytes_fetched t (Err check)).transfer refl refl refl refl (λ e. absurd (cc e)) (λ e. refl) k.tied;
      arrived = k.arrived;
    }

    copy-by : (storage : Contents) (orb : Orb) (p : CommandTrace) (t : Transfer) (r : Result (List ℕ) Check) (b : Bool) → IsAtWork orb p t true →
        IsAtWork orb (if b then p else with_copy storage t r p) (if b then with_bytes_offered t [] else with_bytes_fetched t r).transfer true
    copy-by storage orb p t r true k = record {
      tied = changed earlier orb p.acts p.moved t (record t { offered = 0 }) refl refl refl refl (λ e. e) (λ e. e) k.tied;
      arrived = k.arrived;
    }
    copy-by storage orb p t r false k = given-by storage orb p t r k

    giving-work : (storage : Contents) (orb : Orb) (p : CommandTrace) (t : Transfer) → IsAtWork orb p t true → IsAtWork orb (trace_giving storage t p) (next_chunk storage t).transfer true
    giving-work storage orb p t k =
        let u : Transfer = located_transfer storage t in
        copy-by storage orb (with_acts p (located_acts storage t)) u (access.copied storage u.walk.orb.key u.moving) (has_stopped u) (located-work storage orb p t true k)

    pub gives-work : (storage : Contents) (orb : Orb) (p : CommandTrace) (t : Transfer) (s count : ℕ) → IsAtWork orb p t true →
        IsAtWork orb (gives storage t s count p) (next_chunk storage (chunk_absorbed storage t s count)).transfer true
    gives-work storage orb p t s count k =
        let w = giving-work storage orb (trace_answered storage t s count p) (chunk_absorbed storage t s count) (answer-by storage orb p t s count (s == t.sequence + 1) k) in
        record { tied = w.tied; arrived = w.arrived }

    -- a Data of a command that brings bytes in
    module _ (accesses : AreAccesses) where
      arrival-stored : (storage after : Contents) (t : Transfer) (bytes : List ℕ) → access.stored_or_skipped storage t.walk.orb.key t.moving bytes ≡ Ok after →
          IsStored (record { former = storage.bytes; chunk = chunk_of after t.moving bytes })
      arrival-stored storage after t bytes e =
          let k : IsStore accesses storage after t.moving bytes = stored-bytes accesses storage after t.walk.orb.key t.moving bytes e in
          record { whole = length-each_below (next_place t.moving) (length bytes); stands = k.stands; others = k.others }

      arrival-by : (storage : Contents) (orb : Orb) (p : CommandTrace) (t : Transfer) (bytes : List ℕ) (r : Result Contents Check) → access.stored_or_skipped storage t.walk.orb.key t.moving bytes ≡ r →
          length bytes ≤ t.moving.left → IsNext orb p t →
          IsAtWork orb (with_arrival storage t bytes r p) (after_store storage t (length bytes) r).transfer false
      arrival-by storage orb p t bytes (Ok after) e l k =
          let a : Arrival = record { former = storage.bytes; chunk = chunk_of after t.moving bytes } in
          let q : CommandTrace = record p { arrived = p.arrived ++ a ∷ [] } in
          let parts : (_ : (doing.trace_moved_on after t (length bytes) q).moved ≡ p.moved ++ each_below (next_place t.moving) (length bytes))
          × ((doing.trace_moved_on after t (length bytes) q).arrived ≡ p.arrived ++ a ∷ []) =
          after_bytes_moved-parts after t (length bytes) q (chains_data (with_bytes_moved t (length bytes)) (length bytes)) in
          let x : IsThrough t (after_bytes_moved after t (length bytes)) = after_bytes_moved-through after t (length bytes) (chains_data (with_bytes_moved t (length bytes)) (length bytes)) in
          record {
            tied = after_bytes_moved-tied laws earlier after orb q t (length bytes) l k.tied;
            arrived = (
              subst (λ (xs : List Arrival). All IsStored xs) (sym parts.1) (All-push IsStored p.arrived a k.stored (arrival-stored storage after t bytes e)),
              ap places_arrived parts.1 ∙ places-arrived p.arrived a ∙ ap (λ (xs : List (Option ℕ)). xs ++ each_below (next_place t.moving) (length bytes)) k.places ∙ sym parts.0,
              λ z. x.0 ∙ k.next (x.1 z) ∙ sym (length-append p.arrived (a ∷ [])) ∙ sym (ap length parts.1),
            );
          }
      arrival-by storage orb p t bytes (Err check) e l k = record {
        tied = changed earlier orb p.acts p.moved t (record t { fault = Some check }) refl refl refl refl (λ z. absurd (cc z)) (λ z. refl) k.tied;
        arrived = (k.stored, k.places, λ z. absurd (cc z));
      }

      store-by : (storage : Contents) (orb : Orb) (p : CommandTrace) (t : Transfer) (bytes : List ℕ) (b : Bool) → is_some t.fault ≡ b → length bytes ≤ t.moving.left → IsNext orb p t →
          IsAtWork orb (if b then p else with_arrival storage t bytes (access.stored_or_skipped storage t.walk.orb.key t.moving bytes) p)
          (if b then record { transfer = t; storage = storage } else after_store storage t (length bytes) (access.stored_or_skipped storage t.walk.orb.key t.moving bytes)).transfer false
      store-by storage orb p t bytes true f l k =
          record { tied = k.tied; arrived = (k.stored, k.places, λ z. absurd (cc (sym (ap (λ (x : Option Check). is_some x) z) ∙ f))) }
      store-by storage orb p t bytes false f l k = arrival-by storage orb p t bytes (access.stored_or_skipped storage t.walk.orb.key t.moving bytes) refl l k

      pub bring-by : (storage : Contents) (orb : Orb) (p : CommandTrace) (t : Transfer) (s : ℕ) (bytes : List ℕ) (b : Bool) → (s == t.sequence + 1) ≡ b → IsAtWork orb p t false →
          IsAtWork orb (if b then storing storage (record t { sequence = s }) (fitting_bytes t bytes) p else p)
          (if b then bytes_brought_in storage (record t { sequence = s }) (fitting_bytes t bytes) else record { transfer = t; storage = storage }).transfer false
      bring-by storage orb p t s bytes true is k =
          store-by storage orb p (record t { sequence = s }) (fitting_bytes t bytes) (is_some t.fault) refl (fitting-left t bytes)
          (record {
            tied = changed earlier orb p.acts p.moved t (record t { sequence = s }) refl refl refl refl (λ e. e) (λ e. e) k.tied;
            stored = k.arrived.0;
            places = k.arrived.1;
            next = λ e. eqb-true s (t.sequence + 1) is ∙ ap (λ (n : ℕ). n + 1) (k.arrived.2 e);
          })
      bring-by storage orb p t s bytes false is k = k

      pub takes_in-work : (storage : Contents) (orb : Orb) (p : CommandTrace) (t : Transfer) (s : ℕ) (bytes : List ℕ) → IsAtWork orb p t false →
          IsAtWork orb (takes_in storage t s bytes p) (with_room (chunk_stored storage t s bytes).storage (chunk_stored storage t s bytes).transfer).transfer false
      takes_in-work storage orb p t s bytes k =
          let w = located-work (chunk_stored storage t s bytes).storage orb (arriving storage t s bytes p) (chunk_stored storage t s bytes).transfer false
          (bring-by storage orb p t s bytes (s == t.sequence + 1) refl k) in
          record { tied = w.tied; arrived = w.arrived }

    -- a command begins from these acts, or can't, or the program is suspended
    abbrev pub WentOn : Contents → Orb → Sequence Act → Sequence Act → ℕ → WalkPosition → CommandStart → Type 0
    WentOn storage orb before acts n walk (outcome.Begins t) =
        Tied earlier orb acts [] (begun_with_room storage t).transfer × (t.command ≡ n) × ((c : Command) × (commands orb acts ≡ commands orb before ▸ c) × (code c ≡ t.code) × IsFresh (begun_with_room storage t).transfer)
        × BeginsData storage orb t.code (begun_with_room storage t).room (is_some (begun_with_room storage t).transfer.fault) acts
    WentOn storage orb before acts n walk outcome.Suspends =
        IsProgram orb acts × (data_areas orb acts ≡ data_areas orb before) × (commands orb acts ≡ commands orb before) × ((role_of orb acts).chained ≡ false) × (walk ≡ walk_position orb acts) × IsSuspended orb acts × EndsAtCheck orb acts
    WentOn storage orb before acts n walk (outcome.Stops check) =
        IsProgram orb acts × (data_areas orb acts ≡ data_areas orb before) × (commands orb acts ≡ commands orb before) × (next orb acts ≡ None) × EndsAtCheck orb acts
        × (walk ≡ walk_position orb acts)

    right-commands : (orb : Orb) (acts : Sequence Act) (word : ℕ) (f : Option WordFault) → commands orb (acts ▸▸ doing.act_of_right f word) ≡ commands orb acts
    right-commands orb acts word None = refl
    right-commands orb acts word (Some fault) = refl

    located-commands : (storage : Contents) (orb : Orb) (acts : Sequence Act) (t : Transfer) (b c : Bool) (w : Result ℕ Check) →
        commands orb (acts ▸▸ (if b then Nothing else (if c then doing.act_of_word t.moving (length storage.bytes) w else Nothing))) ≡ commands orb acts
    located-commands storage orb acts t true c w = refl
    located-commands storage orb acts t false false w = refl
    located-commands storage orb acts t false true (Ok word) = right-commands orb acts word (word_fault t.moving.kind (t.moving.words == 0) word (length storage.bytes))
    located-commands storage orb acts t false true (Err check) = refl

    room-commands : (storage : Contents) (orb : Orb) (acts : Sequence Act) (t : Transfer) (b : Bool) →
        commands orb (acts ▸▸ (if b then located_acts storage t else Nothing)) ≡ commands orb acts
    room-commands storage orb acts t true =
        located-commands storage orb acts t (is_some t.fault) (needs_word t.moving) (access.word_fetched storage t.walk.orb.key t.moving)
    room-commands storage orb acts t false = refl

    if-flip : (b : Bool) (n : ℕ) → (if b then 0 else n) ≡ (if true && not b then n else 0)
    if-flip true n = refl
    if-flip false n = refl

    -- how many bytes may come as a command begins
    begins-data : (storage : Contents) (orb : Orb) (acts : Sequence Act) (t : Transfer) → Tied earlier orb acts [] t → is_some t.fault ≡ false → IsFresh t → (b : Bool) → brings (class_of t.code) ≡ b →
        let x = if b then with_room storage t else record { transfer = t; room = 0 } in
        BeginsData storage orb t.code x.room (is_some x.transfer.fault) (acts ▸▸ (if b then located_acts storage t else Nothing))
    begins-data storage orb acts t k g f true e =
        let u : Transfer = located_transfer storage t in
        let now : Sequence Act = acts ▸▸ located_acts storage t in
        let w : Tied earlier orb now [] u = located-tied earlier laws storage orb acts [] t k in
        let l = located-kept earlier storage orb acts [] t k in
        let fu : IsFresh u = located-fresh t (is_some t.fault) (access.located storage t.walk.orb.key t.moving) f in (
          ap (λ (b : Bool). if b || is_some u.fault then 0 else room u.moving) fu.2
              ∙ ap (λ (n : ℕ). if is_some u.fault then 0 else n) (reached-room earlier orb now [] u w)
              ∙ if-flip (is_some u.fault) (room_of orb now [])
              ∙ ap (λ (b : Bool). if b && not (is_some u.fault) then room_of orb now [] else 0) (sym e),
          λ x. elim (l.0 x) [ inl y ↦ absurd (cc (sym g ∙ y)) | inr y ↦ y ],
          λ x y. short-same earlier orb now [] u w ∙ l.1 x,
        )
    begins-data storage orb acts t k g f false e = (
      ap (λ (b : Bool). if b && not (is_some t.fault) then room_of orb acts [] else 0) (sym e),
      λ x. absurd (cc (sym g ∙ x)),
      λ x y. absurd (cc (sym e ∙ y)),
    )

    went-by : (storage : Contents) (orb : Orb) (before acts : Sequence Act) (n : ℕ) (walk : WalkPosition) (c : CommandStart) → walk ≡ walk_position orb acts → Begins earlier laws orb before acts n c →
        WentOn storage orb before (acts ▸▸ room_acts storage c) n walk c
    went-by storage orb before acts n walk (outcome.Begins t) w k =
        (room-tied earlier laws storage orb acts t k.0, k.1, (k.2.0, room-commands storage orb acts t (brings (class_of t.code)) ∙ k.2.1, k.2.2, room-fresh storage t k.2.3), begins-data storage orb acts t k.0 k.3 k.2.3 (brings (class_of t.code)) refl)
    went-by storage orb before acts n walk outcome.Suspends w k = (k.0, k.1, k.2, k.3, w, k.4, k.5)
    went-by storage orb before acts n walk (outcome.Stops check) w k = (k.0, k.1, k.2, k.3, k.4, w)

    pub goes-on : (storage : Contents) (orb : Orb) (before : Sequence Act) (n : ℕ) → (role_of orb before).chained ≡ false → count (commands orb before) + 1 ≡ earlier + n →
        IsProgram orb before → has_check orb before ≡ false → EndsAtCheck orb before →
        WentOn storage orb before (before ▸▸ goes_acts storage n (walk_position orb before)) n (goes_to storage n (walk_position orb before)).walk (goes_to storage n (walk_position orb before)).outcome
    goes-on storage orb before n c l p hc en =
        let old : WalkPosition = walk_position orb before in
        let new : Beginning = goes_to storage n old in
        subst (λ (xs : Sequence Act). WentOn storage orb before xs n new.walk new.outcome) (sym (joined-in-order before (advance_acts storage old) (room_acts storage new.outcome)))
        (went-by storage orb before (before ▸▸ advance_acts storage old) n new.walk new.outcome (laws.leads orb before (advance_acts storage old))
        (goes-begins earlier laws storage orb before n c l p hc en))
