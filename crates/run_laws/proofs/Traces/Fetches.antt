-- What comes to a program, act by act, is what storage holds.
use Rattle.std.proofs.Common.{◌≡◌, refl, ap, sym, ◌∙◌, subst, ℕ, ◌+◌, ◌≤◌, Bool, true, false, List, [], ◌∷◌, length, Option, Some, None, Result, Ok, Err, inl, inr, arith, ◌++◌}
use Rattle.std.specs.Prelude.{◌==◌, ◌&&◌, ◌%◌, not, min, is_some, if◌then◌else◌}
use Rattle.std.proofs.lemmas.Bool.{eqb-true}
use Rattle.orb_block.specs.declared.Orb.{Orb}
use Rattle.ccw_codec.specs.declared.Ccw.{Ccw}
use Rattle.ccw_codec.specs.Command.{class_of}
use Rattle.storage_keys.specs.declared.StorageFault.{StorageFault}
use Rattle.storage_keys.specs.Storage.{Contents, fetched}
use Rattle.ccw_walk.specs.declared.check.Check.{Check}
use Rattle.ccw_walk.specs.declared.check.Check.TheVariants.{Program}
use Rattle.ccw_walk.specs.declared.program.Ended.{Ended}
use Rattle.ccw_walk.specs.declared.program.Reading.{Reading}
use Rattle.ccw_walk.specs.declared.program.Reading.TheVariants.{Transfers}
use Rattle.ccw_walk.specs.Sequences.{Sequence, Nothing, ◌▸◌, ◌▸▸◌, count}
use Rattle.ccw_walk.specs.Acts.{Act, Block, Unfetched, Used_up, End}
use Rattle.ccw_walk.specs.Blocks.{reads}
use Rattle.ccw_walk.specs.Programs.{IsProgram, role_of, next, commands}
use Rattle.ccw_walk.specs.Advancing.{acts_from_next, with_tic_target, acts_from_fetch, advance_acts}
use Rattle.ccw_walk.specs.Positions.{after_block, after_count_used_up, after_command_end, WalkPosition, walk_position}
use Rattle.ccw_walk.specs.Fetching.{act_of_fetch, is_program_misplaced, fetch_act}
use Rattle.idaw.specs.declared.ListKind.{ListKind}
use Rattle.idaw.specs.Lists.{kind_of, width, address_of_word, word_fault}
use Rattle.idaw.specs.declared.WordFault.{WordFault}
use Rattle.idaw.specs.Places.{Reach}
use Rattle.data_move.specs.Moving.{Moving, needs_word, room}
use Rattle.data_move.specs.Accesses as access
use Rattle.data_move.specs.Accesses.{checked, list_word_of}
use Rattle.data_move.specs.declared.transfer.Transfer.{Transfer}
use Rattle.data_move.specs.declared.transfer.CommandStart.{CommandStart}
use Rattle.data_move.specs.declared.transfer.CommandStart.TheVariants as outcome
use Rattle.data_move.specs.Commands.{goes_to, located_transfer, has_stopped, brings}
use Rattle.data_move.specs.DataChaining.{chains_data, with_bytes_moved}
use Rattle.data_move.specs.ToDevice.{with_chunk_counted, chunk_absorbed}
use Rattle.data_move.specs.FromDevice.{after_store, bytes_brought_in, chunk_stored, fitting_bytes}
use Rattle.run_laws.specs.DataAreas.{data_areas}
use Rattle.run_laws.proofs.Traces.MachineActs as doing
use Rattle.run_laws.specs.Traces.{Arrival, CommandTrace}
use Rattle.run_laws.proofs.Traces.MachineActs.{act_of_right, act_of_word, located_acts, room_acts, goes_acts, next_acts, chained_acts, with_acts, with_places, with_copy, copying, trace_answered, gives, with_arrival, storing, arriving, takes_in}
use Rattle.run_laws.specs.ProgramClaims.{has_check, EndsAtCheck}
use Rattle.run_laws.specs.Fetches.{IsNextWord, IsFetched, AreFetched, AddsFetched}
use Rattle.run_laws.proofs.Bytes.Accesses.{AreAccesses}
use Rattle.run_laws.proofs.Traces.Ties.{AreLaws, IsMovedTo, Tied, changed, Begins, goes-begins}
use Rattle.run_laws.proofs.Traces.Parts.{IsAtWork, after_bytes_moved-parts, room-left, answer-tied, answer-by, fitting-left, bring-by}
use Rattle.run_laws.proofs.Bytes.Used.{used-same, none-used, used-by}
use Rattle.run_laws.specs.Tells.{is_used_up, acts_used}
use Rattle.run_laws.proofs.Traces.Sequences.{joined-in-order}

pub adds-none : (storage : Contents) (orb : Orb) (before : Sequence Act) → AddsFetched storage orb before before
adds-none storage orb before = (Nothing, refl, tt)

fetched-append : (storage : Contents) (orb : Orb) (acts more before : Sequence Act) → AreFetched storage orb (before ▸▸ more) acts → AreFetched storage orb before more →
    AreFetched storage orb before (more ▸▸ acts)
fetched-append storage orb Nothing more before a b = b
fetched-append storage orb (acts ▸ act) more before a b =
    (subst (λ (xs : Sequence Act). IsFetched storage orb xs act) (sym (joined-in-order before more acts)) a.0, fetched-append storage orb acts more before a.1 b)

adds-more : (storage : Contents) (orb : Orb) (before mid acts : Sequence Act) → AddsFetched storage orb before mid → AreFetched storage orb mid acts →
    AddsFetched storage orb before (mid ▸▸ acts)
adds-more storage orb before mid acts a b = (
  a.0 ▸▸ acts,
  ap (λ (xs : Sequence Act). xs ▸▸ acts) a.1 ∙ sym (joined-in-order before a.0 acts),
  fetched-append storage orb acts a.0 before (subst (λ (xs : Sequence Act). AreFetched storage orb xs acts) a.1 b) a.2,
)

-- a block
fetch-by : (storage : Contents) (orb : Orb) (before : Sequence Act) (address : ℕ) (test : Bool) (answer : Result (List ℕ) StorageFault) →
    ((role_of orb before).first && is_program_misplaced orb address) ≡ test → fetched storage orb.key address 8 ≡ answer →
    IsFetched storage orb before (if test then Unfetched address Program else act_of_fetch address answer)
fetch-by storage orb before address true answer d e = inr (d, refl)
fetch-by storage orb before address false (Ok bytes) d e = e
fetch-by storage orb before address false (Err fault) d e = inl (ap checked e)

fetch-fetched : (storage : Contents) (orb : Orb) (before : Sequence Act) (address : ℕ) → IsFetched storage orb before (fetch_act storage orb (role_of orb before) address)
fetch-fetched storage orb before address =
    fetch-by storage orb before address ((role_of orb before).first && is_program_misplaced orb address) (fetched storage orb.key address 8) refl refl

target-fetched : (storage : Contents) (orb : Orb) (before : Sequence Act) (address : ℕ) (bytes : List ℕ) (r : Reading) → fetched storage orb.key address 8 ≡ Ok bytes →
    AreFetched storage orb before (with_tic_target storage (after_block (walk_position orb before) address bytes) r (Nothing ▸ Block address bytes))
target-fetched storage orb before address bytes (Transfers target) e =
    (fetch-fetched storage orb (before ▸ Block address bytes) target, (e, tt))
target-fetched storage orb before address bytes other e = (e, tt)

from-by : (storage : Contents) (orb : Orb) (before : Sequence Act) (address : ℕ) (test : Bool) (answer : Result (List ℕ) StorageFault) →
    ((role_of orb before).first && is_program_misplaced orb address) ≡ test → fetched storage orb.key address 8 ≡ answer →
    AreFetched storage orb before (acts_from_fetch storage (walk_position orb before) (if test then Unfetched address Program else act_of_fetch address answer))
from-by storage orb before address true answer d e = (inr (d, refl), tt)
from-by storage orb before address false (Ok bytes) d e = target-fetched storage orb before address bytes (reads orb (role_of orb before) bytes) e
from-by storage orb before address false (Err fault) d e = (inl (ap checked e), tt)

at-fetched : (storage : Contents) (orb : Orb) (before : Sequence Act) (n : Option ℕ) → AreFetched storage orb before (acts_from_next storage (walk_position orb before) n)
at-fetched storage orb before None = tt
at-fetched storage orb before (Some address) =
    from-by storage orb before address ((role_of orb before).first && is_program_misplaced orb address) (fetched storage orb.key address 8) refl refl

advance-fetched : (storage : Contents) (orb : Orb) (before : Sequence Act) → AreFetched storage orb before (advance_acts storage (walk_position orb before))
advance-fetched storage orb before = at-fetched storage orb before (next orb before)

-- data is chained
chained-adds : (storage : Contents) (orb : Orb) (acts : Sequence Act) (t : Transfer) → t.walk ≡ walk_position orb acts →
    AddsFetched storage orb (acts ▸ Used_up) (acts ▸▸ chained_acts storage t)
chained-adds storage orb acts t e =
    let more : WalkPosition → Sequence Act = λ w. advance_acts storage (after_count_used_up w) in (
      more t.walk,
      joined-in-order acts (Nothing ▸ Used_up) (more t.walk),
      subst (λ (w : WalkPosition). AreFetched storage orb (acts ▸ Used_up) (more w)) (sym e) (advance-fetched storage orb (acts ▸ Used_up)),
    )

after_bytes_moved-if : (storage : Contents) (orb : Orb) (p : CommandTrace) (t : Transfer) (n : ℕ) (b : Bool) → t.walk ≡ walk_position orb p.acts →
    AddsFetched storage orb (acts_used b p.acts) (if b then with_acts (with_places p t.moving n) (chained_acts storage (with_bytes_moved t n)) else with_places p t.moving n).acts
after_bytes_moved-if storage orb p t n true e = chained-adds storage orb p.acts (with_bytes_moved t n) e
after_bytes_moved-if storage orb p t n false e = adds-none storage orb p.acts

-- a word of an indirect list
aligned-word : (b : Bool) (x : Result ℕ Check) (word : ℕ) → (if not b then Err Program else x) ≡ Ok word → (_ : b ≡ true) × (x ≡ Ok word)
aligned-word true x word e = (refl, e)
aligned-word false x word e = absurd (cc e)

abbrev list-word : Contents → ℕ → ListKind → ℕ → ℕ → Result ℕ Check
list-word storage key kind list i = list_word_of kind (checked (fetched storage key (address_of_word kind list i) (width kind)))

next-word : (storage : Contents) (orb : Orb) (r : Reach) (rs : Sequence Reach) (m : Moving) (word : ℕ) → m.kind ≡ kind_of orb → m.ccw ≡ r.ccw → m.words ≡ length r.words →
    access.word_fetched storage orb.key m ≡ Ok word → word_fault m.kind (m.words == 0) word (length storage.bytes) ≡ None → IsNextWord storage orb (rs ▸ r) word
next-word storage orb r rs m word k c n e f =
    let aligned = aligned-word (m.ccw.address % width m.kind == 0) (list-word storage orb.key m.kind m.ccw.address m.words) word e in (
      ap (λ (ccw : Ccw). ccw.address % width (kind_of orb)) (sym c) ∙ ap (λ (kind : ListKind). m.ccw.address % width kind) (sym k)
          ∙ eqb-true (m.ccw.address % width m.kind) 0 aligned.0,
      ap (λ (i : ℕ). list-word storage orb.key (kind_of orb) r.ccw.address i) (sym n)
          ∙ ap (λ (ccw : Ccw). list-word storage orb.key (kind_of orb) ccw.address m.words) (sym c)
          ∙ ap (λ (kind : ListKind). list-word storage orb.key kind m.ccw.address m.words) (sym k)
          ∙ aligned.1,
      ap (λ (i : ℕ). word_fault (kind_of orb) (i == 0) word (length storage.bytes)) (sym n)
          ∙ ap (λ (kind : ListKind). word_fault kind (m.words == 0) word (length storage.bytes)) (sym k) ∙ f,
    )

spot-word : (storage : Contents) (orb : Orb) (rs : Sequence Reach) (t : Transfer) (ps : List (Option ℕ)) (word : ℕ) → t.moving.kind ≡ kind_of orb →
    access.word_fetched storage orb.key t.moving ≡ Ok word → word_fault t.moving.kind (t.moving.words == 0) word (length storage.bytes) ≡ None → IsMovedTo orb rs t ps →
    IsNextWord storage orb rs word
spot-word storage orb Nothing t ps word e w f k = k
spot-word storage orb (rs ▸ r) t ps word e w f k = next-word storage orb r rs t.moving word e k.0.ccw k.0.words w f

-- a chunk that is copied is no act
copy-by : (storage : Contents) (t : Transfer) (r : Result (List ℕ) Check) (p : CommandTrace) →
    (_ : (with_copy storage t r p).acts ≡ p.acts) × ((with_copy storage t r p).moved ≡ p.moved)
copy-by storage t (Ok bytes) p = (refl, refl)
copy-by storage t (Err check) p = (refl, refl)

copy-if : (storage : Contents) (t : Transfer) (r : Result (List ℕ) Check) (p : CommandTrace) (b : Bool) →
    (_ : (if b then p else with_copy storage t r p).acts ≡ p.acts) × ((if b then p else with_copy storage t r p).moved ≡ p.moved)
copy-if storage t r p true = (refl, refl)
copy-if storage t r p false = copy-by storage t r p

pub copy-same : (storage : Contents) (t : Transfer) (p : CommandTrace) → (_ : (copying storage t p).acts ≡ p.acts) × ((copying storage t p).moved ≡ p.moved)
copy-same storage t p = copy-if storage t (access.copied storage t.walk.orb.key t.moving) p (has_stopped t)

-- so many commands were sent under earlier numbers
module _ (earlier : ℕ) where
  right-fetched : (storage : Contents) (orb : Orb) (acts : Sequence Act) (ps : List (Option ℕ)) (t : Transfer) (word : ℕ) (f : Option WordFault) →
      access.word_fetched storage t.walk.orb.key t.moving ≡ Ok word → word_fault t.moving.kind (t.moving.words == 0) word (length storage.bytes) ≡ f → Tied earlier orb acts ps t →
      AreFetched storage orb acts (act_of_right f word)
  right-fetched storage orb acts ps t word None e f k =
      let same : access.word_fetched storage orb.key t.moving ≡ Ok word =
      ap (λ (x : WalkPosition). access.word_fetched storage x.orb.key t.moving) (sym k.walk) ∙ e in
      (spot-word storage orb (data_areas orb acts) t ps word k.kind same f k.spot, tt)
  right-fetched storage orb acts ps t word (Some fault) e f k = tt

  located-by : (storage : Contents) (orb : Orb) (acts : Sequence Act) (ps : List (Option ℕ)) (t : Transfer) (b c : Bool) (w : Result ℕ Check) →
      access.word_fetched storage t.walk.orb.key t.moving ≡ w → Tied earlier orb acts ps t →
      AreFetched storage orb acts (if b then Nothing else (if c then act_of_word t.moving (length storage.bytes) w else Nothing))
  located-by storage orb acts ps t true c w e k = tt
  located-by storage orb acts ps t false false w e k = tt
  located-by storage orb acts ps t false true (Ok word) e k =
      right-fetched storage orb acts ps t word (word_fault t.moving.kind (t.moving.words == 0) word (length storage.bytes)) e refl k
  located-by storage orb acts ps t false true (Err check) e k = tt

  located-fetched : (storage : Contents) (orb : Orb) (acts : Sequence Act) (ps : List (Option ℕ)) (t : Transfer) → Tied earlier orb acts ps t →
      AreFetched storage orb acts (located_acts storage t)
  located-fetched storage orb acts ps t k =
      located-by storage orb acts ps t (is_some t.fault) (needs_word t.moving) (access.word_fetched storage t.walk.orb.key t.moving) refl k

  module _ (laws : AreLaws) where
    -- a command begins, or can't, or the program is suspended
    room-if : (storage : Contents) (orb : Orb) (acts : Sequence Act) (t : Transfer) (b : Bool) → Tied earlier orb acts [] t →
        AreFetched storage orb acts (if b then located_acts storage t else Nothing)
    room-if storage orb acts t true k = located-fetched storage orb acts [] t k
    room-if storage orb acts t false k = tt

    room-fetched : (storage : Contents) (orb : Orb) (before acts : Sequence Act) (n : ℕ) (c : CommandStart) → Begins earlier laws orb before acts n c →
        AreFetched storage orb acts (room_acts storage c)
    room-fetched storage orb before acts n (outcome.Begins t) k = room-if storage orb acts t (brings (class_of t.code)) k.0
    room-fetched storage orb before acts n outcome.Suspends k = tt
    room-fetched storage orb before acts n (outcome.Stops check) k = tt

    pub goes-fetched : (storage : Contents) (orb : Orb) (before : Sequence Act) (n : ℕ) → (role_of orb before).chained ≡ false → count (commands orb before) + 1 ≡ earlier + n →
        IsProgram orb before → has_check orb before ≡ false → EndsAtCheck orb before → AreFetched storage orb before (goes_acts storage n (walk_position orb before))
    goes-fetched storage orb before n c l p hc en =
        let old : WalkPosition = walk_position orb before in
        fetched-append storage orb (room_acts storage (goes_to storage n old).outcome) (advance_acts storage old) before
        (room-fetched storage orb before (before ▸▸ advance_acts storage old) n (goes_to storage n old).outcome (goes-begins earlier laws storage orb before n c l p hc en))
        (advance-fetched storage orb before)

    abbrev ending : Bool → Ended
    ending modifier = record { goes_on = true; modifier = modifier }

    pub next-adds : (storage : Contents) (orb : Orb) (acts : Sequence Act) (ps : List (Option ℕ)) (t : Transfer) (modifier : Bool) → t.moving.ccw.chain_data ≡ false →
        is_some t.fault ≡ false → Tied earlier orb acts ps t → AddsFetched storage orb (acts ▸ End (ending modifier)) (acts ▸▸ next_acts storage t modifier)
    next-adds storage orb acts ps t modifier d f k =
        let before : Sequence Act = acts ▸ End (ending modifier) in
        let m : count (commands orb before) ≡ earlier + t.command = k.number in
        let more : WalkPosition → Sequence Act = λ w. goes_acts storage (t.command + 1) (after_command_end w (ending modifier)) in (
          more t.walk,
          joined-in-order acts (Nothing ▸ End (ending modifier)) (more t.walk),
          subst (λ (w : WalkPosition). AreFetched storage orb before (more w)) (sym k.walk)
              (goes-fetched storage orb before (t.command + 1) (k.chained f ∙ d) (omega (arith, m)) (k.stands, k.program) (k.checked f) k.ends),
        )

    -- a Data of a command that takes bytes to the device
    -- so many bytes are moved, and then the words that are next are fetched
    abbrev UsedAdds : Contents → Orb → Bool → CommandTrace → CommandTrace → Type 0
    UsedAdds storage orb kept p q = AddsFetched storage orb (acts_used (is_used_up orb kept p q) p.acts) q.acts

    unused-adds : (storage : Contents) (orb : Orb) (kept : Bool) (p q : CommandTrace) → q.moved ≡ p.moved → q.acts ≡ p.acts → UsedAdds storage orb kept p q
    unused-adds storage orb kept p q e f =
        subst (λ (b : Bool). AddsFetched storage orb (acts_used b p.acts) q.acts) (sym (none-used orb kept p q e))
        (subst (λ (acts : Sequence Act). AddsFetched storage orb p.acts acts) (sym f) (adds-none storage orb p.acts))

    after_bytes_moved-adds : (storage : Contents) (orb : Orb) (p : CommandTrace) (t : Transfer) (n : ℕ) (arrived : List Arrival) → n ≤ t.moving.left → Tied earlier orb p.acts p.moved t →
        UsedAdds storage orb (is_some t.fault) p (doing.trace_moved_on storage t n (record p { arrived = arrived }))
    after_bytes_moved-adds storage orb p t n arrived l k =
        let r : CommandTrace = record p { arrived = arrived } in
        let q : CommandTrace = doing.trace_moved_on storage t n r in
        subst (λ (b : Bool). AddsFetched storage orb (acts_used b p.acts) q.acts)
        (sym (used-same laws earlier orb p q t n l k (after_bytes_moved-parts storage t n r (chains_data (with_bytes_moved t n) n)).0))
        (after_bytes_moved-if storage orb r t n (chains_data (with_bytes_moved t n) n) k.walk)

    answer-if : (storage : Contents) (orb : Orb) (p : CommandTrace) (t : Transfer) (s count : ℕ) (b : Bool) → IsAtWork earlier orb p t true →
        UsedAdds storage orb (is_some t.fault) p (if b then doing.trace_moved_on storage (with_chunk_counted t s count) (min count (room t.moving)) p else p)
    answer-if storage orb p t s count true k =
        after_bytes_moved-adds storage orb p (with_chunk_counted t s count) (min count (room t.moving)) p.arrived (room-left t count) (answer-tied earlier laws orb p t s count k).tied
    answer-if storage orb p t s count false k = unused-adds storage orb (is_some t.fault) p p refl refl

    later-adds : (storage : Contents) (orb : Orb) (kept : Bool) (p q r : CommandTrace) (acts : Sequence Act) → r.moved ≡ q.moved → r.acts ≡ q.acts ▸▸ acts → UsedAdds storage orb kept p q →
        AreFetched storage orb q.acts acts → UsedAdds storage orb kept p r
    later-adds storage orb kept p q r acts e f a b =
        subst (λ (x : Bool). AddsFetched storage orb (acts_used x p.acts) r.acts) (sym (used-by orb kept p q r e))
        (subst (λ (xs : Sequence Act). AddsFetched storage orb (acts_used (is_used_up orb kept p q) p.acts) xs) (sym f)
        (adds-more storage orb (acts_used (is_used_up orb kept p q) p.acts) q.acts acts a b))

    pub gives-adds : (storage : Contents) (orb : Orb) (p : CommandTrace) (t : Transfer) (s count : ℕ) → IsAtWork earlier orb p t true →
        UsedAdds storage orb (is_some t.fault) p (gives storage t s count p)
    gives-adds storage orb p t s count k =
        let q : CommandTrace = trace_answered storage t s count p in
        let u : Transfer = chunk_absorbed storage t s count in
        let w : IsAtWork earlier orb q u true = answer-by earlier laws storage orb p t s count (s == t.sequence + 1) k in
        let same = copy-same storage (located_transfer storage u) (with_acts q (located_acts storage u)) in
        later-adds storage orb (is_some t.fault) p q (gives storage t s count p) (located_acts storage u) same.1 same.0
        (answer-if storage orb p t s count (s == t.sequence + 1) k) (located-fetched storage orb q.acts q.moved u w.tied)

    -- a Data of a command that brings bytes in: they are stored first
    arrival-adds : (storage : Contents) (orb : Orb) (p : CommandTrace) (t : Transfer) (bytes : List ℕ) (r : Result Contents Check) → length bytes ≤ t.moving.left → Tied earlier orb p.acts p.moved t →
        UsedAdds (after_store storage t (length bytes) r).storage orb (is_some t.fault) p (with_arrival storage t bytes r p)
    arrival-adds storage orb p t bytes (Ok after) l k =
        after_bytes_moved-adds after orb p t (length bytes) (p.arrived ++ record { former = storage.bytes; chunk = doing.chunk_of after t.moving bytes } ∷ []) l k
    arrival-adds storage orb p t bytes (Err check) l k = unused-adds storage orb (is_some t.fault) p p refl refl

    store-if : (storage : Contents) (orb : Orb) (p : CommandTrace) (t : Transfer) (bytes : List ℕ) (r : Result Contents Check) (b : Bool) → length bytes ≤ t.moving.left →
        Tied earlier orb p.acts p.moved t →
        UsedAdds (if b then record { transfer = t; storage = storage } else after_store storage t (length bytes) r).storage orb (is_some t.fault) p (if b then p else with_arrival storage t bytes r p)
    store-if storage orb p t bytes r true l k = unused-adds storage orb (is_some t.fault) p p refl refl
    store-if storage orb p t bytes r false l k = arrival-adds storage orb p t bytes r l k

    bring-if : (storage : Contents) (orb : Orb) (p : CommandTrace) (t : Transfer) (s : ℕ) (bytes : List ℕ) (b : Bool) → Tied earlier orb p.acts p.moved t →
        UsedAdds (if b then bytes_brought_in storage (record t { sequence = s }) (fitting_bytes t bytes) else record { transfer = t; storage = storage }).storage orb (is_some t.fault) p
        (if b then storing storage (record t { sequence = s }) (fitting_bytes t bytes) p else p)
    bring-if storage orb p t s bytes true k =
        let u : Transfer = record t { sequence = s } in
        store-if storage orb p u (fitting_bytes t bytes) (access.stored_or_skipped storage t.walk.orb.key t.moving (fitting_bytes t bytes)) (is_some t.fault) (fitting-left t bytes)
        (changed earlier orb p.acts p.moved t u refl refl refl refl (λ e. e) (λ e. e) k)
    bring-if storage orb p t s bytes false k = unused-adds storage orb (is_some t.fault) p p refl refl

    pub takes_in-adds : (accesses : AreAccesses) (storage : Contents) (orb : Orb) (p : CommandTrace) (t : Transfer) (s : ℕ) (bytes : List ℕ) → IsAtWork earlier orb p t false →
        UsedAdds (chunk_stored storage t s bytes).storage orb (is_some t.fault) p (takes_in storage t s bytes p)
    takes_in-adds accesses storage orb p t s bytes k =
        let q : CommandTrace = arriving storage t s bytes p in
        let x = chunk_stored storage t s bytes in
        let w : IsAtWork earlier orb q x.transfer false = bring-by earlier laws accesses storage orb p t s bytes (s == t.sequence + 1) refl k in
        later-adds x.storage orb (is_some t.fault) p q (takes_in storage t s bytes p) (located_acts x.storage x.transfer) refl refl
        (bring-if storage orb p t s bytes (s == t.sequence + 1) k.tied) (located-fetched x.storage orb q.acts q.moved x.transfer w.tied)
