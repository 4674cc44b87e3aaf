-- How a subchannel's doings change what is to be known of the bytes of a write.
use Rattle.std.proofs.Common.{◌≡◌, refl, sym, ◌∙◌, ap, subst, ℕ, ◌+◌, ◌≤◌, Bool, true, false, ◌==◌, ◌&&◌, ◌||◌, length, Option, Some, Result, Ok, Err, List, [], ◌∷◌, ◌++◌, inl, inr, arith}
use Rattle.std.specs.Prelude.{◌⊎◌, min, nat_lt, is_some, if◌then◌else◌, Contains}
use Rattle.std.proofs.lemmas.Bool.{eqb-true, and_parts}
use Rattle.std.proofs.lemmas.List.Elements.{Contains-append_left, Contains-push}
use Rattle.std.proofs.Math.Nat.{min-le_left}
use Rattle.storage_keys.specs.Storage.{Contents}
use Rattle.ccw_walk.specs.declared.check.Check.{Check}
use Rattle.ccw_walk.specs.declared.program.Advance.{Advance}
use Rattle.ccw_walk.specs.declared.program.Advance.TheVariants as advance
use Rattle.ccw_walk.specs.Acts.{PlacedBytes}
use Rattle.ccw_walk.specs.Positions.{WalkPosition, after_acts, after_count_used_up}
use Rattle.ccw_walk.specs.Advancing.{advance_acts, advance_of_acts}
use Rattle.idaw.specs.Places.{each_below}
use Rattle.data_move.specs.Moving.{Moving, next_place, needs_word, room}
use Rattle.data_move.specs.Accesses as access
use Rattle.data_move.specs.declared.transfer.Transfer.{Transfer}
use Rattle.data_move.specs.declared.transfer.CommandStart.TheVariants as outcome
use Rattle.data_move.specs.declared.transfer.NextChunk.{NextChunk}
use Rattle.data_move.specs.Commands.{transfer_of, command_begins, goes_to, located_transfer, with_located, has_stopped}
use Rattle.data_move.specs.DataChaining.{chains_data, with_next_ccw, data_chained, with_bytes_moved, after_bytes_moved}
use Rattle.data_move.specs.ToDevice.{with_chunk_counted, chunk_absorbed, chunk_at_place, next_chunk, with_bytes_fetched}
use Rattle.run_laws.proofs.Traces.MachineActs as doing
use Rattle.run_laws.specs.Traces.{CommandTrace}
use Rattle.run_laws.proofs.Traces.MachineActs.{with_acts, with_places, with_copy, copying, located_acts, chunk_of, chained_acts, trace_answered, gives}
use Rattle.run_laws.proofs.Bytes.Accesses.{AreAccesses, copied-room}
use Rattle.run_laws.proofs.Bytes.UnitFlows.{View, IsGood, AreCopied, IsLocated}

abbrev pub view_of : Transfer → CommandTrace → View
view_of t p = record { seq = t.sequence; next = next_place t.moving; room = room t.moving; moved = p.moved; copied = p.copied }

-- the number of the last chunk stays
with_next_ccw-seq : (t : Transfer) (walk : WalkPosition) (a : Option Advance) → (with_next_ccw t walk a).sequence ≡ t.sequence
with_next_ccw-seq t walk (Some (advance.Takes ccw)) = refl
with_next_ccw-seq t walk other = refl

after_bytes_moved-if : (storage : Contents) (t : Transfer) (n : ℕ) (b : Bool) → (if b then data_chained storage (with_bytes_moved t n) else with_bytes_moved t n).sequence ≡ t.sequence
after_bytes_moved-if storage t n true =
    let old : WalkPosition = after_count_used_up t.walk in
    with_next_ccw-seq (with_bytes_moved t n) (after_acts old (advance_acts storage old)) (advance_of_acts old (advance_acts storage old))
after_bytes_moved-if storage t n false = refl

pub after_bytes_moved-seq : (storage : Contents) (t : Transfer) (n : ℕ) → (after_bytes_moved storage t n).sequence ≡ t.sequence
after_bytes_moved-seq storage t n = after_bytes_moved-if storage t n (chains_data (with_bytes_moved t n) n)

-- what is moved, and copied
moved-if : (storage : Contents) (t : Transfer) (n : ℕ) (p : CommandTrace) (b : Bool) →
    let q : CommandTrace = if b then with_acts (with_places p t.moving n) (chained_acts storage (with_bytes_moved t n)) else with_places p t.moving n in
    (_ : q.moved ≡ p.moved ++ each_below (next_place t.moving) n) × (q.copied ≡ p.copied)
moved-if storage t n p true = (refl, refl)
moved-if storage t n p false = (refl, refl)

pub record IsAnswered (v w : View) (n : ℕ) : Type 0 where
  pub seq : w.seq ≡ v.seq + 1
  pub moved : w.moved ≡ v.moved ++ each_below v.next n
  pub copied : AreCopied v w

same-copied : (xs ys : List PlacedBytes) → ys ≡ xs → (c : PlacedBytes) → Contains xs c → Contains ys c
same-copied xs ys e c k = subst (λ (zs : List PlacedBytes). Contains zs c) (sym e) k

answer-if : (storage : Contents) (t : Transfer) (s count : ℕ) (p : CommandTrace) (b : Bool) → b ≡ true → s ≡ t.sequence + 1 →
    IsAnswered (view_of t p)
    (view_of (if b then after_bytes_moved storage (with_chunk_counted t s count) (min count (room t.moving)) else t)
    (if b then doing.trace_moved_on storage (with_chunk_counted t s count) (min count (room t.moving)) p else p))
    (min count (room t.moving))
answer-if storage t s count p true e f =
    let n : ℕ = min count (room t.moving) in
    let q : CommandTrace = doing.trace_moved_on storage (with_chunk_counted t s count) n p in
    let parts : (_ : q.moved ≡ p.moved ++ each_below (next_place t.moving) n) × (q.copied ≡ p.copied) =
    moved-if storage (with_chunk_counted t s count) n p (chains_data (with_bytes_moved (with_chunk_counted t s count) n) n) in
    record { seq = after_bytes_moved-seq storage (with_chunk_counted t s count) n ∙ f; moved = parts.0; copied = same-copied p.copied q.copied parts.1 }
answer-if storage t s count p false e f = absurd (cc e)

-- the next bytes are located
pub located-trans : (v w x : View) → IsLocated v w → IsLocated w x → IsLocated v x
located-trans v w x a b = record {
  seq = b.seq ∙ a.seq;
  moved = b.moved ∙ a.moved;
  copied = λ c k. b.copied c (a.copied c k);
  next = λ n l. let f = a.next n l in let g = b.next n f.0 in (g.0, g.1 ∙ f.1);
}

-- where a word is needed there is room for none
no-room : (m : Moving) (n : ℕ) → needs_word m ≡ true → n ≤ room m → n ≡ 0
no-room m n e l =
    let f : m.left ≡ 0 = eqb-true m.left 0 (and_parts (m.left == 0) (nat_lt m.done m.ccw.count) e).0 in
    let g : room m ≤ m.left = min-le_left m.left 256 in
    omega (arith, f, g, l)

empty-next : (v : View) (t : Transfer) (p : CommandTrace) → ((n : ℕ) → n ≤ v.room → n ≡ 0) → (n : ℕ) → n ≤ v.room →
    (n ≤ (view_of t p).room) × (each_below (view_of t p).next n ≡ each_below v.next n)
empty-next v t p f n l =
    let z : n ≡ 0 = f n l in
    (omega (arith, z), ap (each_below (next_place t.moving)) z ∙ ap (each_below v.next) (sym z))

word-located : (t : Transfer) (p q : CommandTrace) (r : Result Moving Check) → needs_word t.moving ≡ true → q.moved ≡ p.moved → q.copied ≡ p.copied →
    IsLocated (view_of t p) (view_of (with_located t r) q)
word-located t p q (Ok m) e f g = record {
  seq = refl;
  moved = f;
  copied = same-copied p.copied q.copied g;
  next = empty-next (view_of t p) (record t { moving = m }) q (λ n l. no-room t.moving n e l);
}
word-located t p q (Err check) e f g = record { seq = refl; moved = f; copied = same-copied p.copied q.copied g; next = λ n l. (l, refl) }

need-located : (storage : Contents) (t : Transfer) (p q : CommandTrace) (r : Result Moving Check) (b : Bool) → needs_word t.moving ≡ b → q.moved ≡ p.moved → q.copied ≡ p.copied →
    IsLocated (view_of t p) (view_of (with_located t (if b then r else Ok t.moving)) q)
need-located storage t p q r true e f g = word-located t p q r e f g
need-located storage t p q r false e f g = record { seq = refl; moved = f; copied = same-copied p.copied q.copied g; next = λ n l. (l, refl) }

fault-located : (storage : Contents) (t : Transfer) (p q : CommandTrace) (b : Bool) → q.moved ≡ p.moved → q.copied ≡ p.copied →
    IsLocated (view_of t p) (view_of (if b then t else with_located t (access.located storage t.walk.orb.key t.moving)) q)
fault-located storage t p q true f g = record { seq = refl; moved = f; copied = same-copied p.copied q.copied g; next = λ n l. (l, refl) }
fault-located storage t p q false f g =
    need-located storage t p q (access.piece_begun t.moving (length storage.bytes) (access.word_fetched storage t.walk.orb.key t.moving)) (needs_word t.moving) refl f g

pub located-view : (storage : Contents) (t : Transfer) (p : CommandTrace) → IsLocated (view_of t p) (view_of (located_transfer storage t) (with_acts p (located_acts storage t)))
located-view storage t p = fault-located storage t p (with_acts p (located_acts storage t)) (is_some t.fault) refl refl

-- the next chunk is copied
contains-later : (xs : List PlacedBytes) (y x : PlacedBytes) → Contains xs x → Contains (xs ++ y ∷ []) x
contains-later xs y x k = Contains-append_left xs (y ∷ []) x k

contains-first : (xs : List PlacedBytes) (x : PlacedBytes) → Contains (xs ++ x ∷ []) x
contains-first xs x = Contains-push xs x

pub record IsGiven (v w : View) (bytes : List ℕ) : Type 0 where
  pub located : IsLocated v w
  pub good : (bytes ≡ []) ⊎ IsGood w bytes

module _ (accesses : AreAccesses) where
  copy-given : (storage : Contents) (t : Transfer) (p : CommandTrace) (r : Result (List ℕ) Check) → access.copied storage t.walk.orb.key t.moving ≡ r →
      IsGiven (view_of t p) (view_of (with_bytes_fetched t r).transfer (with_copy storage t r p)) (with_bytes_fetched t r).bytes
  copy-given storage t p (Ok bytes) e = record {
    located = record { seq = refl; moved = refl; copied = contains-later p.copied (chunk_of storage t.moving bytes); next = λ n l. (l, refl) };
    good =
        inr (record {
          chunk = chunk_of storage t.moving bytes;
          there = contains-first p.copied (chunk_of storage t.moving bytes);
          same = refl;
          places = refl;
          within = copied-room accesses storage t.walk.orb.key t.moving bytes e;
        });
  }
  copy-given storage t p (Err check) e = record { located = record { seq = refl; moved = refl; copied = λ c k. k; next = λ n l. (l, refl) }; good = inl refl }

  stop-given : (storage : Contents) (t : Transfer) (p : CommandTrace) (b : Bool) →
      let r : Result (List ℕ) Check = access.copied storage t.walk.orb.key t.moving in
      let g : NextChunk = if b then record { transfer = record t { offered = 0 }; bytes = [] } else with_bytes_fetched t r in
      IsGiven (view_of t p) (view_of g.transfer (if b then p else with_copy storage t r p)) g.bytes
  stop-given storage t p true = record { located = record { seq = refl; moved = refl; copied = λ c k. k; next = λ n l. (l, refl) }; good = inl refl }
  stop-given storage t p false = copy-given storage t p (access.copied storage t.walk.orb.key t.moving) refl

  next-given : (storage : Contents) (t : Transfer) (p : CommandTrace) → IsGiven (view_of t p) (view_of (next_chunk storage t).transfer (doing.trace_giving storage t p)) (next_chunk storage t).bytes
  next-given storage t p =
      let u : Transfer = located_transfer storage t in
      let q : CommandTrace = with_acts p (located_acts storage t) in
      let g : IsGiven (view_of u q) (view_of (chunk_at_place storage u).transfer (copying storage u q)) (chunk_at_place storage u).bytes = stop-given storage u q (has_stopped u) in
      record { located = located-trans (view_of t p) (view_of u q) (view_of (next_chunk storage t).transfer (doing.trace_giving storage t p)) (located-view storage t p) g.located; good = g.good }

  -- a Data of the next chunk: the bytes that were absorbed are moved, and the next are given
  answered-located : (v w x : View) (n : ℕ) → IsAnswered v w n → IsLocated w x → IsAnswered v x n
  answered-located v w x n a b = record { seq = b.seq ∙ a.seq; moved = b.moved ∙ a.moved; copied = λ c k. b.copied c (a.copied c k) }

  pub answers-view : (storage : Contents) (t : Transfer) (s count : ℕ) (p : CommandTrace) → (s == t.sequence + 1) ≡ true →
      let g : NextChunk = next_chunk storage (chunk_absorbed storage t s count) in
      let w : View = view_of g.transfer (gives storage t s count p) in
      IsAnswered (view_of t p) w (min count (room t.moving)) × ((g.bytes ≡ []) ⊎ IsGood w g.bytes)
  answers-view storage t s count p e =
      let a : Transfer = chunk_absorbed storage t s count in
      let q : CommandTrace = trace_answered storage t s count p in
      let g : IsGiven (view_of a q) (view_of (next_chunk storage a).transfer (doing.trace_giving storage a q)) (next_chunk storage a).bytes = next-given storage a q in (
        answered-located (view_of t p) (view_of a q) (view_of (next_chunk storage a).transfer (doing.trace_giving storage a q)) (min count (room t.moving))
            (answer-if storage t s count p (s == t.sequence + 1) e (eqb-true s (t.sequence + 1) e)) g.located,
        g.good,
      )

  -- one of the last chunk: its bytes are moved, and the next are given anew
  pub repeats-view : (storage : Contents) (t : Transfer) (s count : ℕ) (p : CommandTrace) → (s == t.sequence + 1) ≡ false →
      let g : NextChunk = next_chunk storage (chunk_absorbed storage t s count) in
      IsGiven (view_of t p) (view_of g.transfer (gives storage t s count p)) g.bytes
  repeats-view storage t s count p e =
      subst
      (λ (b : Bool).
      let a : Transfer = if b then after_bytes_moved storage (with_chunk_counted t s count) (min count (room t.moving)) else t in
      let q : CommandTrace = if b then doing.trace_moved_on storage (with_chunk_counted t s count) (min count (room t.moving)) p else p in
      IsGiven (view_of t p) (view_of (next_chunk storage a).transfer (doing.trace_giving storage a q)) (next_chunk storage a).bytes)
      (sym e) (next-given storage t p)

-- a command that begins has moved nothing
begins-new : (walk : WalkPosition) (n : ℕ) (a : Option Advance) (t : Transfer) → command_begins walk n a ≡ outcome.Begins t → t.sequence ≡ 0
begins-new walk n (Some (advance.Takes ccw)) t e = let same : transfer_of walk n ccw ≡ t = cc e in ap (λ (x : Transfer). x.sequence) (sym same)
begins-new walk n other t e = absurd (cc e)

pub goes-new : (storage : Contents) (n : ℕ) (old : WalkPosition) (t : Transfer) → (goes_to storage n old).outcome ≡ outcome.Begins t → t.sequence ≡ 0
goes-new storage n old t e = begins-new (after_acts old (advance_acts storage old)) n (advance_of_acts old (advance_acts storage old)) t e

-- a Data that is answered is of the command at work, of its last chunk or the next
pub current-facts : (t : Transfer) (n seq : ℕ) (x : Bool) → (((n == t.command) && ((seq == t.sequence) || (seq == t.sequence + 1))) && x) ≡ true → (n ≡ t.command) × ((seq ≡ t.sequence) ⊎ (seq ≡ t.sequence + 1))
current-facts t n seq x e =
    let a = and_parts ((n == t.command) && ((seq == t.sequence) || (seq == t.sequence + 1))) x e in
    let b = and_parts (n == t.command) ((seq == t.sequence) || (seq == t.sequence + 1)) a.0 in
    (eqb-true n t.command b.0, either (seq == t.sequence) (seq == t.sequence + 1) refl refl b.1)
  where
    either : (p q : Bool) → (seq == t.sequence) ≡ p → (seq == t.sequence + 1) ≡ q → (p || q) ≡ true → (seq ≡ t.sequence) ⊎ (seq ≡ t.sequence + 1)
    either true q f g h = inl (eqb-true seq t.sequence f)
    either false true f g h = inr (eqb-true seq (t.sequence + 1) g)
    either false false f g h = absurd (cc h)
