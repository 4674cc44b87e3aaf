-- Which bytes a Data moves, gives and stores.
use Rattle.std.proofs.Common.{◌≡◌, refl, sym, ◌∙◌, ap, subst, arith, ℕ, ◌+◌, ◌≤◌, ◌==◌, Bool, true, false, List, [], ◌∷◌, ◌++◌, length, take, Option, Some, None, Result, Ok, Err, inl, inr, append-nil, min}
use Rattle.std.proofs.lemmas.Bool.{eqb-true, eqb-false}
use Rattle.std.proofs.Math.Nat.{min-le_left}
use Rattle.std.specs.Prelude.{◌||◌, if◌then◌else◌, is_some}
use Rattle.orb_block.specs.declared.Orb.{Orb}
use Rattle.storage_keys.specs.declared.StorageFault.{StorageFault}
use Rattle.storage_keys.specs.Storage.{Contents, stored_bytes}
use Rattle.ccw_walk.specs.declared.check.Check.{Check}
use Rattle.ccw_walk.specs.Sequences.{Sequence, count, each}
use Rattle.ccw_walk.specs.Acts.{Act}
use Rattle.ccw_walk.specs.Programs.{Command, commands, code}
use Rattle.ccw_walk.specs.Positions.{WalkPosition}
use Rattle.idaw.specs.Places.{each_below}
use Rattle.data_move.specs.Accesses as access
use Rattle.data_move.specs.Accesses.{checked}
use Rattle.data_move.specs.Moving.{next_place, room}
use Rattle.data_move.specs.declared.transfer.NextChunk.{NextChunk}
use Rattle.data_move.specs.declared.transfer.Transfer.{Transfer}
use Rattle.data_move.specs.Commands.{located_transfer, has_stopped}
use Rattle.data_move.specs.FromDevice.{StoredChunk, fitting_bytes, after_store, bytes_brought_in}
use Rattle.data_move.specs.DataChaining.{with_bytes_moved, chains_data}
use Rattle.data_move.specs.ToDevice.{with_chunk_counted, chunk_absorbed, with_bytes_offered, next_chunk, with_bytes_fetched}
use Rattle.run_laws.specs.Traces.{CommandTrace}
use Rattle.run_laws.specs.ProgramClaims.{IsBeginning, places_of}
use Rattle.run_laws.specs.DataAreas.{data_areas}
use Rattle.run_laws.specs.Fetches.{AddsFetched}
use Rattle.run_laws.specs.Tells.{IsGiven, Gives, Stores, acts_used}
use Rattle.run_laws.specs.Reached.{CantStore}
use Rattle.run_laws.proofs.Traces.MachineActs.{with_acts, with_places, chained_acts, located_acts, chunk_of, with_copy, copying, trace_moved_on, trace_answered, gives, with_arrival, storing}
use Rattle.run_laws.proofs.Bytes.Lists.{length-each_below}
use Rattle.run_laws.proofs.Bytes.Accesses.{AreAccesses, copied-room, copied-length, stored-bytes}
use Rattle.run_laws.proofs.Traces.Ties.{AreLaws, Tied, changed, spot-begins, with_bytes_moved-tied}
use Rattle.run_laws.proofs.Traces.Parts.{IsSame, IsAtWork, after_bytes_moved-parts, fitting-left, answer-by, located-work}
use Rattle.run_laws.proofs.Traces.Goings.{same-codes}

-- how many bytes are given next, as the transfer has it
abbrev pub given_by : Transfer → ℕ
given_by t = if has_stopped t || t.moving.skipped then 0 else room t.moving

-- the same command is at work: none came to the program
module _ (earlier : ℕ) where
  used-codes : (orb : Orb) (used : Bool) (acts : Sequence Act) → commands orb (acts_used used acts) ≡ commands orb acts
  used-codes orb true acts = refl
  used-codes orb false acts = refl

  pub work-codes : (storage : Contents) (orb : Orb) (p q : CommandTrace) (used : Bool) (t u : Transfer) (d e : Bool) → IsSame t u → IsAtWork earlier orb p t d → IsAtWork earlier orb q u e →
      AddsFetched storage orb (acts_used used p.acts) q.acts → each code (commands orb q.acts) ≡ each code (commands orb p.acts)
  work-codes storage orb p q used t u d e same k l a =
      let before : Sequence Act = acts_used used p.acts in
      let same-before : commands orb before ≡ commands orb p.acts = used-codes orb used p.acts in
      let was : count (commands orb p.acts) ≡ earlier + t.command = k.tied.number in
      let is : count (commands orb q.acts) ≡ earlier + u.command = l.tied.number in
      let many : count (commands orb q.acts) ≡ count (commands orb p.acts) = let n : u.command ≡ t.command = same.1 in omega (arith, was, is, n) in
      ap (λ (acts : Sequence Act). each code (commands orb acts)) a.1
      ∙ same-codes orb a.0 before (ap (λ (acts : Sequence Act). count (commands orb acts)) (sym a.1) ∙ many ∙ ap count (sym same-before))
      ∙ ap (λ (cs : Sequence Command). each code cs) same-before

  module _ (laws : AreLaws) (accesses : AreAccesses) where
    -- a write
    copied-given : (storage : Contents) (orb : Orb) (p : CommandTrace) (t : Transfer) (r : Result (List ℕ) Check) → access.copied storage t.walk.orb.key t.moving ≡ r →
        IsAtWork earlier orb p t true → IsGiven storage orb (with_bytes_fetched t r).bytes p (with_copy storage t r p)
    copied-given storage orb p t (Ok bytes) e k =
        let n : ℕ = length bytes in
        let most : n ≤ room t.moving = copied-room accesses storage t.walk.orb.key t.moving bytes e in
        let within : room t.moving ≤ t.moving.left = min-le_left t.moving.left 256 in
        inr (
          each_below (next_place t.moving) n,
          refl,
          spot-begins orb (data_areas orb p.acts) (with_bytes_moved t n) (p.moved ++ each_below (next_place t.moving) n)
              (with_bytes_moved-tied earlier laws orb p.acts p.moved t n (omega (arith, most, within)) k.tied).spot,
        )
    copied-given storage orb p t (Err check) e k = inl (refl, refl)

    copy-given : (storage : Contents) (orb : Orb) (p : CommandTrace) (t : Transfer) (b : Bool) → IsAtWork earlier orb p t true →
        IsGiven storage orb (if b then with_bytes_offered t [] else with_bytes_fetched t (access.copied storage t.walk.orb.key t.moving)).bytes p
        (if b then p else with_copy storage t (access.copied storage t.walk.orb.key t.moving) p)
    copy-given storage orb p t true k = inl (refl, refl)
    copy-given storage orb p t false k = copied-given storage orb p t (access.copied storage t.walk.orb.key t.moving) refl k

    -- what is copied changes nothing else
    copied-moved : (storage : Contents) (t : Transfer) (p : CommandTrace) (b : Bool) (r : Result (List ℕ) Check) →
        ((if b then p else with_copy storage t r p).moved ≡ p.moved) × ((if b then p else with_copy storage t r p).arrived ≡ p.arrived)
    copied-moved storage t p true r = (refl, refl)
    copied-moved storage t p false (Ok bytes) = (refl, refl)
    copied-moved storage t p false (Err check) = (refl, refl)

    -- what the device absorbed is moved
    abbrev IsAnswered : ℕ → CommandTrace → CommandTrace → Type 0
    IsAnswered count p q =
        (absorbed : List (Option ℕ)) × (length absorbed ≡ count) × (q.moved ≡ p.moved ++ absorbed) × (q.arrived ≡ p.arrived) × (q.copied ≡ p.copied)

    after_bytes_moved-copied : (storage : Contents) (t : Transfer) (n : ℕ) (p : CommandTrace) (b : Bool) →
        (if b then with_acts (with_places p t.moving n) (chained_acts storage (with_bytes_moved t n)) else with_places p t.moving n).copied ≡ p.copied
    after_bytes_moved-copied storage t n p true = refl
    after_bytes_moved-copied storage t n p false = refl

    answered : (storage : Contents) (t : Transfer) (s count : ℕ) (p : CommandTrace) (b : Bool) →
        IsAnswered (if b then min count (room t.moving) else 0) p (if b then trace_moved_on storage (with_chunk_counted t s count) (min count (room t.moving)) p else p)
    answered storage t s count p true =
        let u : Transfer = with_chunk_counted t s count in
        let n : ℕ = min count (room t.moving) in
        let parts = after_bytes_moved-parts storage u n p (chains_data (with_bytes_moved u n) n) in (
          each_below (next_place t.moving) n,
          length-each_below (next_place t.moving) n,
          parts.0,
          parts.1,
          after_bytes_moved-copied storage u n p (chains_data (with_bytes_moved u n) n),
        )
    answered storage t s count p false = ([], refl, sym (append-nil p.moved), refl, refl)

    -- how many are given
    none-given : (x y : Bool) (n : ℕ) → x ≡ true → 0 ≡ (if x || y then 0 else n)
    none-given true y n e = refl
    none-given false y n e = absurd (cc e)

    some-given : (x y : Bool) (n m : ℕ) → x ≡ false → m ≡ (if y then 0 else n) → m ≡ (if x || y then 0 else n)
    some-given true y n m e f = absurd (cc e)
    some-given false y n m e f = f

    or-true : (x : Bool) → (x || true) ≡ true
    or-true true = refl
    or-true false = refl

    chunk-many : (storage : Contents) (t : Transfer) (r : Result (List ℕ) Check) → has_stopped t ≡ false → access.copied storage t.walk.orb.key t.moving ≡ r →
        length (with_bytes_fetched t r).bytes ≡ given_by (with_bytes_fetched t r).transfer
    chunk-many storage t (Ok bytes) e f =
        some-given (has_stopped t) t.moving.skipped (room t.moving) (length bytes) e (copied-length accesses storage t.walk.orb.key t.moving bytes f)
    chunk-many storage t (Err check) e f = none-given (t.stopped || true) t.moving.skipped (room t.moving) (or-true t.stopped)

    given-many : (storage : Contents) (t : Transfer) (b : Bool) → has_stopped t ≡ b →
        let given : NextChunk = if b then with_bytes_offered t [] else with_bytes_fetched t (access.copied storage t.walk.orb.key t.moving) in
        length given.bytes ≡ given_by given.transfer
    given-many storage t true e = none-given (has_stopped t) t.moving.skipped (room t.moving) e
    given-many storage t false e = chunk-many storage t (access.copied storage t.walk.orb.key t.moving) e refl

    given-from : (storage : Contents) (orb : Orb) (bytes : List ℕ) (p q now : CommandTrace) → q.copied ≡ p.copied → now.moved ≡ q.moved → IsGiven storage orb bytes q now →
        IsGiven storage orb bytes p now
    given-from storage orb bytes p q now e m (inl x) = inl (x.0, x.1 ∙ e)
    given-from storage orb bytes p q now e m (inr x) =
        inr (x.0, x.1 ∙ ap (λ cs. cs ++ record { storage = storage.bytes; places = x.0; bytes = bytes } ∷ []) e, x.2)

    pub gives-told : (storage : Contents) (orb : Orb) (p : CommandTrace) (t : Transfer) (s count : ℕ) → IsAtWork earlier orb p t true →
        Gives storage orb (if s == t.sequence + 1 then min count (room t.moving) else 0) (given_by (next_chunk storage (chunk_absorbed storage t s count)).transfer)
        (next_chunk storage (chunk_absorbed storage t s count)).bytes p (gives storage t s count p)
    gives-told storage orb p t s count k =
        let a : Transfer = chunk_absorbed storage t s count in
        let q : CommandTrace = trace_answered storage t s count p in
        let u : Transfer = located_transfer storage a in
        let r : CommandTrace = with_acts q (located_acts storage a) in
        let x : IsAnswered (if s == t.sequence + 1 then min count (room t.moving) else 0) p q = answered storage t s count p (s == t.sequence + 1) in
        let w : IsAtWork earlier orb q a true = answer-by earlier laws storage orb p t s count (s == t.sequence + 1) k in
        let c = copied-moved storage u r (has_stopped u) (access.copied storage u.walk.orb.key u.moving) in
        record {
          absorbed = x.0;
          all = x.1;
          many = given-many storage u (has_stopped u) refl;
          moved = c.0 ∙ x.2;
          given =
              given-from storage orb (next_chunk storage a).bytes p r (copying storage u r) x.4 c.0
              (copy-given storage orb r u (has_stopped u) (located-work earlier laws storage orb q a true w));
          arrived = c.1 ∙ x.3;
        }

    -- a read
    abbrev StoresBy : Contents → StoredChunk → Orb → ℕ → Bool → ℕ → List ℕ → CommandTrace → CommandTrace → Type 0
    StoresBy storage x orb n kept s bytes p now = Stores storage x.storage orb n kept s bytes p now

    -- bytes that storage refuses are of the place that is next
    refused : (storage : Contents) (key place : ℕ) (bytes : List ℕ) (check : Check) → checked (stored_bytes storage key place bytes) ≡ Err check → 1 ≤ length bytes
    refused storage key place [] check e = absurd (cc e)
    refused storage key place (x ∷ bytes) check e = omega arith

    not-stored : (r : Result Contents StorageFault) (check : Check) → checked r ≡ Err check → (after : Contents) → r ≡ Ok after → ⊥
    not-stored r check e after f = cc (sym e ∙ ap checked f)

    pub cant-by : (storage : Contents) (orb : Orb) (p : CommandTrace) (t : Transfer) (bytes : List ℕ) (check : Check) (b : Bool) → t.moving.skipped ≡ b →
        (if b then Ok storage else checked (stored_bytes storage t.walk.orb.key t.moving.piece bytes)) ≡ Err check → length bytes ≤ t.moving.left → Tied earlier orb p.acts p.moved t →
        CantStore storage orb p.acts p.moved bytes
    cant-by storage orb p t bytes check true s e l k = absurd (cc e)
    cant-by storage orb p t bytes check false s e l k =
        let m = t.moving in
        let some : 1 ≤ length bytes = refused storage t.walk.orb.key m.piece bytes check e in
        let place : next_place m 0 ≡ Some m.piece =
        ap (λ (b : Bool). if b then None else Some (m.piece + 0)) s ∙ ap (λ (n : ℕ). Some n) (let z : m.piece + 0 ≡ m.piece = omega arith in z) in
        let key : t.walk.orb.key ≡ orb.key = ap (λ (x : WalkPosition). x.orb.key) k.walk in (
          m.piece,
          subst (λ (x : Option ℕ). IsBeginning (p.moved ++ x ∷ []) (places_of orb p.acts)) place
              (spot-begins orb (data_areas orb p.acts) (with_bytes_moved t 1) (p.moved ++ each_below (next_place m) 1)
              (with_bytes_moved-tied earlier laws orb p.acts p.moved t 1 (omega (arith, some, l)) k).spot),
          not-stored (stored_bytes storage orb.key m.piece bytes) check (ap (λ (x : ℕ). checked (stored_bytes storage x m.piece bytes)) (sym key) ∙ e),
        )

    arrival-told : (storage : Contents) (orb : Orb) (t : Transfer) (bytes : List ℕ) (n : ℕ) (r : Result Contents Check) (p : CommandTrace) (kept : Bool) → t.sequence ≡ length p.arrived + 1 →
        access.stored_or_skipped storage t.walk.orb.key t.moving (take n bytes) ≡ r → length (take n bytes) ≤ t.moving.left → Tied earlier orb p.acts p.moved t →
        StoresBy storage (after_store storage t (length (take n bytes)) r) orb n kept t.sequence bytes p (with_arrival storage t (take n bytes) r p)
        × ((with_arrival storage t (take n bytes) r p).copied ≡ p.copied)
    arrival-told storage orb t bytes n (Ok after) p kept next e l k =
        let some : List ℕ = take n bytes in
        let q : CommandTrace = record p { arrived = p.arrived ++ record { former = storage.bytes; chunk = chunk_of after t.moving some } ∷ [] } in
        let parts = after_bytes_moved-parts after t (length some) q (chains_data (with_bytes_moved t (length some)) (length some)) in (
          inr (next, each_below (next_place t.moving) (length some), parts.1, parts.0, (stored-bytes accesses storage after t.walk.orb.key t.moving some e).alone),
          after_bytes_moved-copied after t (length some) q (chains_data (with_bytes_moved t (length some)) (length some)),
        )
    arrival-told storage orb t bytes n (Err check) p kept next e l k =
        (inl ((λ f. inr (cant-by storage orb p t (take n bytes) check t.moving.skipped refl e l k)), refl, refl, refl), refl)

    stored-told : (storage : Contents) (orb : Orb) (t : Transfer) (bytes : List ℕ) (n : ℕ) (r : Result Contents Check) (p : CommandTrace) (fault : Option Check) → t.fault ≡ fault →
        (fault ≡ None → t.sequence ≡ length p.arrived + 1) →
        access.stored_or_skipped storage t.walk.orb.key t.moving (take n bytes) ≡ r → length (take n bytes) ≤ t.moving.left → Tied earlier orb p.acts p.moved t → let b : Bool = is_some fault in
        StoresBy storage (if b then record { transfer = t; storage = storage } else after_store storage t (length (take n bytes)) r) orb n b t.sequence bytes p
        (if b then p else with_arrival storage t (take n bytes) r p)
        × ((if b then p else with_arrival storage t (take n bytes) r p).copied ≡ p.copied)
    stored-told storage orb t bytes n r p (Some check) f next e l k = (inl ((λ x. inl refl), refl, refl, refl), refl)
    stored-told storage orb t bytes n r p None f next e l k = arrival-told storage orb t bytes n r p false (next refl) e l k

    -- where it is next and none are stored, a check stopped the transfer before
    unstored : (fault : Option Check) (s n m : ℕ) → (s == n + 1) ≡ false → (fault ≡ None → n ≡ m) → s ≡ m + 1 → is_some fault ≡ true
    unstored (Some check) s n m f g e = refl
    unstored None s n m f g e = absurd (eqb-false s (n + 1) f (e ∙ sym (ap (λ (x : ℕ). x + 1) (g refl))))

    pub brought-told : (storage : Contents) (orb : Orb) (t : Transfer) (s : ℕ) (bytes : List ℕ) (p : CommandTrace) (b : Bool) → (s == t.sequence + 1) ≡ b → IsAtWork earlier orb p t false →
        StoresBy storage (if b then bytes_brought_in storage (record t { sequence = s }) (fitting_bytes t bytes) else record { transfer = t; storage = storage }) orb (room t.moving) (is_some t.fault) s bytes p
        (if b then storing storage (record t { sequence = s }) (fitting_bytes t bytes) p else p)
        × ((if b then storing storage (record t { sequence = s }) (fitting_bytes t bytes) p else p).copied ≡ p.copied)
    brought-told storage orb t s bytes p true is k =
        let u : Transfer = record t { sequence = s } in
        stored-told storage orb u bytes (room t.moving) (access.stored_or_skipped storage t.walk.orb.key t.moving (fitting_bytes t bytes)) p t.fault refl
        (λ e. eqb-true s (t.sequence + 1) is ∙ ap (λ (n : ℕ). n + 1) (k.arrived.2 e)) refl (fitting-left t bytes)
        (changed earlier orb p.acts p.moved t u refl refl refl refl (λ e. e) (λ e. e) k.tied)
    brought-told storage orb t s bytes p false is k =
        (inl ((λ e. inl (unstored t.fault s t.sequence (length p.arrived) is k.arrived.2 e)), refl, refl, refl), refl)
