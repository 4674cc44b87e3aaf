-- How far the data of a command is reached, and why a check is kept.
use Rattle.std.proofs.Common.{◌≡◌, refl, sym, ◌∙◌, ap, subst, arith, ℕ, zero, suc, ◌+◌, ◌-◌, ◌%◌, ◌≤◌, ◌<◌, ◌==◌, Bool, true, false, List, [], ◌∷◌, ◌++◌, length, Option, Some, None, Result, Ok, Err, inl, inr, length-append}
use Rattle.std.specs.Prelude.{◌⊎◌, if◌then◌else◌, is_some, is_none, not, ◌&&◌, nat_lt, min}
use Rattle.std.proofs.lemmas.Bool.{and_parts, eq-eqb, ne_eqb, ltb-true, ltb-false, lt-ltb}
use Rattle.std.proofs.lemmas.Nat.{mod_below}
use Rattle.std.proofs.Math.Nat.{min-le_left}
use Rattle.orb_block.specs.declared.Orb.{Orb}
use Rattle.ccw_codec.specs.declared.Ccw.{Ccw}
use Rattle.storage_keys.specs.Storage.{Contents, fetched}
use Rattle.ccw_walk.specs.declared.check.Check.{Check}
use Rattle.ccw_walk.specs.declared.check.Check.TheVariants.{Program}
use Rattle.ccw_walk.specs.declared.program.Advance.{Advance}
use Rattle.ccw_walk.specs.declared.program.Advance.TheVariants as advance
use Rattle.ccw_walk.specs.Sequences.{Sequence, Nothing, ◌▸◌, ◌▸▸◌}
use Rattle.ccw_walk.specs.Acts.{Act, Used_up}
use Rattle.ccw_walk.specs.Programs.{role_of, commands, next}
use Rattle.ccw_walk.specs.Positions.{WalkPosition, walk_position, after_acts, after_count_used_up}
use Rattle.ccw_walk.specs.Advancing.{advance_acts, advance_of_acts}
use Rattle.idaw.specs.declared.ListKind.{ListKind}
use Rattle.idaw.specs.declared.ListKind.TheVariants.{Short, LongByFourK, LongByTwoK}
use Rattle.idaw.specs.declared.WordFault.{WordFault}
use Rattle.idaw.specs.Lists.{block, kind_of, width, address_of_word, word_fault}
use Rattle.idaw.specs.Places.{Reach, covered, each_below, place_of_byte}
use Rattle.run_laws.specs.DataAreas.{places_of_bytes, data_areas, counts}
use Rattle.data_move.specs.Accesses as access
use Rattle.data_move.specs.Accesses.{checked, list_word_of, where_right}
use Rattle.data_move.specs.Moving.{Moving, with_piece, next_place, needs_word, residual, uses_list, room, IsAt}
use Rattle.data_move.specs.declared.transfer.Transfer.{Transfer}
use Rattle.data_move.specs.Commands.{located_transfer, with_located}
use Rattle.data_move.specs.DataChaining.{chains_data, with_next_ccw, data_chained, with_bytes_moved, after_bytes_moved}
use Rattle.data_move.specs.ToDevice.{with_bytes_offered, with_bytes_fetched}
use Rattle.run_laws.specs.ProgramClaims.{IsBeginning, places_of, has_check}
use Rattle.run_laws.specs.Fetches.{IsNextWord}
use Rattle.run_laws.specs.Reached.{reached, left_of, room_of, is_short, skips, CantReach, CantFetch}
use Rattle.run_laws.specs.Traces.{CommandTrace}
use Rattle.run_laws.proofs.Traces.MachineActs as doing
use Rattle.run_laws.proofs.Traces.MachineActs.{act_of_right, act_of_word, located_acts, chained_acts, with_acts, with_places, trace_moved_on}
use Rattle.run_laws.proofs.Bytes.Lists.{length-places, length-each_below}
use Rattle.run_laws.proofs.Traces.Advances.{Went, UnlessStops, advance-went, advance-ends}
use Rattle.run_laws.proofs.Traces.Standing.{acts-stand, suspended-unchained}
use Rattle.run_laws.proofs.Traces.Ties.{AreLaws, IsMovedTo, Tied, spot-begins, spot-counts, done-within, ccw-of, with_bytes_moved-tied}
use Rattle.run_laws.proofs.Traces.Sequences.{joined-in-order}

-- how many bytes are reached
bound-by : (u : Bool) (r : Reach) (m : Moving) → uses_list m ≡ u → IsAt r m → m.done + m.left ≡ (if u then min (covered (block m.kind) r.words) m.ccw.count else m.ccw.count)
bound-by true r m e a = a.listed e
bound-by false r m e a = a.whole e

list-same : (r : Reach) (m : Moving) → IsAt r m → uses_list m ≡ (r.ccw.indirect && not r.skipped)
list-same r m a = ap (λ (c : Ccw). c.indirect && not m.skipped) a.ccw ∙ ap (λ (b : Bool). r.ccw.indirect && not b) a.skipped

module _ (earlier : ℕ) where
  pub left-same : (orb : Orb) (acts : Sequence Act) (ps : List (Option ℕ)) (t : Transfer) → Tied earlier orb acts ps t → t.moving.left ≡ left_of orb acts ps
  left-same orb acts ps t k = by (data_areas orb acts) k.spot
    where
      b : ℕ
      b = block (kind_of orb)

      rest : (c d l n x : ℕ) → n ≡ c + d → d + l ≡ x → l ≡ (c + x) - n
      rest c d l n x e f = omega (arith, e, f)

      by : (rs : Sequence Reach) → IsMovedTo orb rs t ps → t.moving.left ≡ reached b rs - length ps
      by Nothing s = absurd s
      by (rs ▸ r) s =
          let m : Moving = t.moving in
          let x : Bool = r.ccw.indirect && not r.skipped in
          let long : length ps ≡ length (places_of_bytes b rs) + length (each_below (place_of_byte b r) m.done) =
          ap length s.1 ∙ length-append (places_of_bytes b rs) (each_below (place_of_byte b r) m.done) in
          let before : length (places_of_bytes b rs) ≡ counts rs = length-places b rs in
          let done : length (each_below (place_of_byte b r) m.done) ≡ m.done = length-each_below (place_of_byte b r) m.done in
          let bound : m.done + m.left ≡ (if x then min (covered b r.words) r.ccw.count else r.ccw.count) =
          bound-by x r m (list-same r m s.0) s.0
          ∙ ap (λ (y : ListKind). if x then min (covered (block y) r.words) m.ccw.count else m.ccw.count) k.kind
          ∙ ap (λ (c : Ccw). if x then min (covered b r.words) c.count else c.count) s.0.ccw in
          rest (counts rs) m.done m.left (length ps) (if x then min (covered b r.words) r.ccw.count else r.ccw.count)
          (long ∙ ap (λ (n : ℕ). n + length (each_below (place_of_byte b r) m.done)) before ∙ ap (λ (n : ℕ). counts rs + n) done) bound

  pub room-same : (orb : Orb) (acts : Sequence Act) (ps : List (Option ℕ)) (t : Transfer) → Tied earlier orb acts ps t → room t.moving ≡ room_of orb acts ps
  room-same orb acts ps t k = ap (λ (n : ℕ). min n 256) (left-same orb acts ps t k)

  pub skips-same : (orb : Orb) (acts : Sequence Act) (ps : List (Option ℕ)) (t : Transfer) → Tied earlier orb acts ps t → t.moving.skipped ≡ skips (data_areas orb acts)
  skips-same orb acts ps t k = by (data_areas orb acts) k.spot
    where
      by : (rs : Sequence Reach) → IsMovedTo orb rs t ps → t.moving.skipped ≡ skips rs
      by Nothing s = absurd s
      by (rs ▸ r) s = s.0.skipped

  -- bytes are left where the words do not reach them
  less-same : (a b c d : ℕ) (x : Bool) → nat_lt c d ≡ x → c ≤ d → b ≡ a + (d - c) → nat_lt a b ≡ x
  less-same a b c d true e l f = let m : c < d = ltb-true c d e in lt-ltb a b (omega (arith, m, f))
  less-same a b c d false e l f = let m : d ≤ c = ltb-false c d e in not-less a b (omega (arith, l, m, f))
    where
      not-less : (a b : ℕ) → b ≤ a → nat_lt a b ≡ false
      not-less a b l = by (nat_lt a b) refl
        where
          by : (y : Bool) → nat_lt a b ≡ y → y ≡ false
          by true e = let m : a < b = ltb-true a b e in absurd (omega (arith, l, m))
          by false e = refl

  tied-within : (orb : Orb) (acts : Sequence Act) (ps : List (Option ℕ)) (t : Transfer) → Tied earlier orb acts ps t → t.moving.done ≤ t.moving.ccw.count
  tied-within orb acts ps t k = by (data_areas orb acts) k.spot
    where
      by : (rs : Sequence Reach) → IsMovedTo orb rs t ps → t.moving.done ≤ t.moving.ccw.count
      by Nothing s = absurd s
      by (rs ▸ r) s =
          let l : t.moving.done ≤ r.ccw.count = done-within r t s.0 in
          let e : t.moving.ccw.count ≡ r.ccw.count = ap (λ (c : Ccw). c.count) (ccw-of r t s.0) in
          omega (arith, l, e)

  pub short-same : (orb : Orb) (acts : Sequence Act) (ps : List (Option ℕ)) (t : Transfer) → Tied earlier orb acts ps t → is_short orb acts ps ≡ needs_word t.moving
  short-same orb acts ps t k =
      let m : Moving = t.moving in
      let more : nat_lt (length ps) (counts (data_areas orb acts)) ≡ nat_lt m.done m.ccw.count =
      less-same (length ps) (counts (data_areas orb acts)) m.done m.ccw.count (nat_lt m.done m.ccw.count) refl (tied-within orb acts ps t k)
      (spot-counts orb (data_areas orb acts) t ps k.spot) in
      ap (λ (n : ℕ). (n == 0) && nat_lt (length ps) (counts (data_areas orb acts))) (sym (left-same orb acts ps t k))
      ∙ ap (λ (b : Bool). (m.left == 0) && b) more

  -- the next word, as the transfer fetches it
  word-of : (storage : Contents) (orb : Orb) (rs : Sequence Reach) (t : Transfer) (ps : List (Option ℕ)) (word : ℕ) → t.moving.kind ≡ kind_of orb → IsMovedTo orb rs t ps →
      IsNextWord storage orb rs word →
      (_ : access.word_fetched storage orb.key t.moving ≡ Ok word) × (word_fault t.moving.kind (t.moving.words == 0) word (length storage.bytes) ≡ None)
  word-of storage orb Nothing t ps word e s n = absurd n
  word-of storage orb (rs ▸ r) t ps word e s n =
      let m : Moving = t.moving in
      let aligned : (m.ccw.address % width m.kind == 0) ≡ true =
      eq-eqb (m.ccw.address % width m.kind) 0
      (ap (λ (c : Ccw). c.address % width m.kind) s.0.ccw ∙ ap (λ (y : ListKind). r.ccw.address % width y) e ∙ n.0) in (
        ap (λ (b : Bool). if not b then Err Program
            else list_word_of m.kind (checked (fetched storage orb.key (address_of_word m.kind m.ccw.address m.words) (width m.kind)))) aligned
            ∙ ap (λ (y : ListKind). list_word_of y (checked (fetched storage orb.key (address_of_word y m.ccw.address m.words) (width y)))) e
            ∙ ap (λ (c : Ccw). list_word_of (kind_of orb) (checked (fetched storage orb.key (address_of_word (kind_of orb) c.address m.words) (width (kind_of orb))))) s.0.ccw
            ∙ ap (λ (i : ℕ). list_word_of (kind_of orb) (checked (fetched storage orb.key (address_of_word (kind_of orb) r.ccw.address i) (width (kind_of orb))))) s.0.words
            ∙ n.1,
        ap (λ (y : ListKind). word_fault y (m.words == 0) word (length storage.bytes)) e
            ∙ ap (λ (i : ℕ). word_fault (kind_of orb) (i == 0) word (length storage.bytes)) s.0.words
            ∙ n.2,
      )

  no-word : (storage : Contents) (orb : Orb) (acts : Sequence Act) (ps : List (Option ℕ)) (t : Transfer) → Tied earlier orb acts ps t → needs_word t.moving ≡ true →
      ((word : ℕ) → access.word_fetched storage t.walk.orb.key t.moving ≡ Ok word → word_fault t.moving.kind (t.moving.words == 0) word (length storage.bytes) ≡ None → ⊥) →
      CantReach storage orb acts ps
  no-word storage orb acts ps t k n f = (
    short-same orb acts ps t k ∙ n,
    λ word next.
        let w = word-of storage orb (data_areas orb acts) t ps word k.kind k.spot next in
        f word (ap (λ (x : WalkPosition). access.word_fetched storage x.orb.key t.moving) k.walk ∙ w.0) w.1,
  )

  -- the next bytes are located, or they can't be reached
  abbrev IsLocatedBy : Contents → Orb → Sequence Act → List (Option ℕ) → Transfer → Sequence Act → Transfer → Type 0
  IsLocatedBy storage orb acts ps t more u =
      (is_some u.fault ≡ true → (is_some t.fault ≡ true) ⊎ CantReach storage orb (acts ▸▸ more) ps) × (is_some u.fault ≡ false → needs_word u.moving ≡ false)

  block-positive : (kind : ListKind) (word : ℕ) → word % block kind < block kind
  block-positive kind word = mod_below word (block kind) (some kind)
    where
      some : (kind : ListKind) → 0 < block kind
      some Short = omega arith
      some LongByFourK = omega arith
      some LongByTwoK = omega arith

  piece-needs : (m : Moving) (word : ℕ) → needs_word m ≡ true → needs_word (with_piece m word) ≡ false
  piece-needs m word e =
      let more : m.done < m.ccw.count = ltb-true m.done m.ccw.count (and_parts (m.left == 0) (nat_lt m.done m.ccw.count) e).1 in
      let rest : word % block m.kind < block m.kind = block-positive m.kind word in
      let l : ℕ = min (block m.kind - word % block m.kind) (m.ccw.count - m.done) in
      ap (λ (b : Bool). b && nat_lt m.done m.ccw.count) (ne_eqb l 0 (λ z. min-some (block m.kind - word % block m.kind) (m.ccw.count - m.done) (omega (arith, rest)) (omega (arith, more)) z))
    where
      min-some : (a b : ℕ) → 0 < a → 0 < b → min a b ≡ 0 → ⊥
      min-some a b x y z = absurd (omega (arith, x, y, z))

  right-located : (storage : Contents) (orb : Orb) (acts : Sequence Act) (ps : List (Option ℕ)) (t : Transfer) (word : ℕ) (f : Option WordFault) → needs_word t.moving ≡ true →
      access.word_fetched storage t.walk.orb.key t.moving ≡ Ok word → word_fault t.moving.kind (t.moving.words == 0) word (length storage.bytes) ≡ f → Tied earlier orb acts ps t →
      is_some t.fault ≡ false → IsLocatedBy storage orb acts ps t (act_of_right f word) (with_located t (where_right f (with_piece t.moving word)))
  right-located storage orb acts ps t word None n w e k g = ((λ x. absurd (cc (sym g ∙ x))), (λ x. piece-needs t.moving word n))
  right-located storage orb acts ps t word (Some fault) n w e k g = (
    (λ x. inr (no-word storage orb acts ps t k n (λ other o right.
        let same : other ≡ word = cc (sym o ∙ w) in
        absurd (cc (sym right ∙ ap (λ (y : ℕ). word_fault t.moving.kind (t.moving.words == 0) y (length storage.bytes)) same ∙ e))))),
    (λ x. absurd (cc x)),
  )

  word-located : (storage : Contents) (orb : Orb) (acts : Sequence Act) (ps : List (Option ℕ)) (t : Transfer) (w : Result ℕ Check) → needs_word t.moving ≡ true →
      access.word_fetched storage t.walk.orb.key t.moving ≡ w → Tied earlier orb acts ps t → is_some t.fault ≡ false →
      IsLocatedBy storage orb acts ps t (act_of_word t.moving (length storage.bytes) w) (with_located t (access.piece_begun t.moving (length storage.bytes) w))
  word-located storage orb acts ps t (Ok word) n w k g =
      right-located storage orb acts ps t word (word_fault t.moving.kind (t.moving.words == 0) word (length storage.bytes)) n w refl k g
  word-located storage orb acts ps t (Err check) n w k g = (
    (λ x. inr (no-word storage orb acts ps t k n (λ other o right. cc (sym w ∙ o)))),
    (λ x. absurd (cc x)),
  )

  need-located : (storage : Contents) (orb : Orb) (acts : Sequence Act) (ps : List (Option ℕ)) (t : Transfer) (b : Bool) → needs_word t.moving ≡ b → Tied earlier orb acts ps t →
      is_some t.fault ≡ false →
      IsLocatedBy storage orb acts ps t (if b then act_of_word t.moving (length storage.bytes) (access.word_fetched storage t.walk.orb.key t.moving) else Nothing)
      (with_located t (if b then access.piece_begun t.moving (length storage.bytes) (access.word_fetched storage t.walk.orb.key t.moving) else Ok t.moving))
  need-located storage orb acts ps t true n k g = word-located storage orb acts ps t (access.word_fetched storage t.walk.orb.key t.moving) n refl k g
  need-located storage orb acts ps t false n k g = ((λ x. absurd (cc (sym g ∙ x))), (λ x. n))

  fault-located : (storage : Contents) (orb : Orb) (acts : Sequence Act) (ps : List (Option ℕ)) (t : Transfer) (b : Bool) → is_some t.fault ≡ b → Tied earlier orb acts ps t →
      IsLocatedBy storage orb acts ps t (if b then Nothing else doing.word_acts storage t.walk.orb.key t.moving) (if b then t else with_located t (access.located storage t.walk.orb.key t.moving))
  fault-located storage orb acts ps t true f k = ((λ x. inl f), (λ x. absurd (cc (sym f ∙ x))))
  fault-located storage orb acts ps t false f k = need-located storage orb acts ps t (needs_word t.moving) refl k f

  pub located-kept : (storage : Contents) (orb : Orb) (acts : Sequence Act) (ps : List (Option ℕ)) (t : Transfer) → Tied earlier orb acts ps t →
      IsLocatedBy storage orb acts ps t (located_acts storage t) (located_transfer storage t)
  located-kept storage orb acts ps t k = fault-located storage orb acts ps t (is_some t.fault) refl k

  -- words are no checks
  right-checks : (orb : Orb) (acts : Sequence Act) (word : ℕ) (f : Option WordFault) → has_check orb (acts ▸▸ act_of_right f word) ≡ has_check orb acts
  right-checks orb acts word None = refl
  right-checks orb acts word (Some fault) = refl

  located-by-checks : (storage : Contents) (orb : Orb) (acts : Sequence Act) (t : Transfer) (b c : Bool) (w : Result ℕ Check) →
      has_check orb (acts ▸▸ (if b then Nothing else (if c then act_of_word t.moving (length storage.bytes) w else Nothing))) ≡ has_check orb acts
  located-by-checks storage orb acts t true c w = refl
  located-by-checks storage orb acts t false false w = refl
  located-by-checks storage orb acts t false true (Ok word) = right-checks orb acts word (word_fault t.moving.kind (t.moving.words == 0) word (length storage.bytes))
  located-by-checks storage orb acts t false true (Err check) = refl

  pub located-checks : (storage : Contents) (orb : Orb) (acts : Sequence Act) (t : Transfer) → has_check orb (acts ▸▸ located_acts storage t) ≡ has_check orb acts
  located-checks storage orb acts t = located-by-checks storage orb acts t (is_some t.fault) (needs_word t.moving) (access.word_fetched storage t.walk.orb.key t.moving)

  -- data is chained to a block, which may show a check
  with_next_ccw-kept : (orb : Orb) (acts : Sequence Act) (t : Transfer) (walk : WalkPosition) (a : Option Advance) → UnlessStops a (has_check orb acts) → (a ≡ Some advance.Suspends → ⊥) →
      is_some (with_next_ccw t walk a).fault ≡ true → (is_some t.fault ≡ true) ⊎ (has_check orb acts ≡ true)
  with_next_ccw-kept orb acts t walk (Some (advance.Takes ccw)) u n e = inl e
  with_next_ccw-kept orb acts t walk (Some advance.Suspends) u n e = absurd (n refl)
  with_next_ccw-kept orb acts t walk (Some (advance.Stops check)) u n e = inr u
  with_next_ccw-kept orb acts t walk None u n e = inl e

  module _ (laws : AreLaws) where
    chained-kept : (storage : Contents) (orb : Orb) (acts : Sequence Act) (ps : List (Option ℕ)) (t : Transfer) → is_some t.fault ≡ false → t.moving.ccw.chain_data ≡ true →
        Tied earlier orb acts ps t → is_some (data_chained storage t).fault ≡ true → (is_some t.fault ≡ true) ⊎ (has_check orb (acts ▸▸ chained_acts storage t) ≡ true)
    chained-kept storage orb acts ps t f d k =
        let used : Sequence Act = acts ▸ Used_up in
        let old : WalkPosition = walk_position orb used in
        let news : Sequence Act = advance_acts storage old in
        let ends = advance-ends storage orb used (k.checked f) k.ends in
        let by : is_some (with_next_ccw t (after_acts old news) (advance_of_acts old news)).fault ≡ true → (is_some t.fault ≡ true) ⊎ (has_check orb (used ▸▸ news) ≡ true) =
        with_next_ccw-kept orb (used ▸▸ news) t (after_acts old news) (advance_of_acts old news) ends.1
        (λ s. not-suspended storage orb acts (k.chained f ∙ d) s) in
        subst
        (λ (w : WalkPosition). is_some (with_next_ccw t (after_acts (after_count_used_up w) (advance_acts storage (after_count_used_up w))) (advance_of_acts (after_count_used_up w) (advance_acts storage (after_count_used_up w)))).fault ≡ true →
        (is_some t.fault ≡ true) ⊎ (has_check orb (acts ▸▸ (Nothing ▸ Used_up ▸▸ advance_acts storage (after_count_used_up w))) ≡ true)) (sym k.walk)
        (λ e. elim (by e) [ inl x ↦ inl x | inr x ↦ inr (ap (has_check orb) (joined-in-order acts (Nothing ▸ Used_up) news) ∙ x) ])
      where
        not-suspended : (storage : Contents) (orb : Orb) (acts : Sequence Act) → (role_of orb acts).chained ≡ true →
            advance_of_acts (walk_position orb (acts ▸ Used_up)) (advance_acts storage (walk_position orb (acts ▸ Used_up))) ≡ Some advance.Suspends → ⊥
        not-suspended storage orb acts c s =
            let used : Sequence Act = acts ▸ Used_up in
            let news : Sequence Act = advance_acts storage (walk_position orb used) in
            let went = subst (λ (a : Option Advance). Went (role_of orb used).chained (commands orb used) (commands orb (used ▸▸ news)) (data_areas orb used) (data_areas orb (used ▸▸ news)) (next orb (used ▸▸ news))
            (role_of orb (used ▸▸ news)) a) s (advance-went storage orb used) in
            cc (sym (went.2 ∙ c) ∙ suspended-unchained orb (used ▸▸ news) (acts-stand orb used news advance.Suspends (laws.leads orb used) s))

    after_bytes_moved-by : (storage : Contents) (orb : Orb) (p : CommandTrace) (t : Transfer) (n : ℕ) (b : Bool) → chains_data (with_bytes_moved t n) n ≡ b → n ≤ t.moving.left → Tied earlier orb p.acts p.moved t →
        is_some (if b then data_chained storage (with_bytes_moved t n) else with_bytes_moved t n).fault ≡ true →
        (is_some t.fault ≡ true) ⊎ (has_check orb (if b then with_acts (with_places p t.moving n) (chained_acts storage (with_bytes_moved t n)) else with_places p t.moving n).acts ≡ true)
    after_bytes_moved-by storage orb p t n true e l k =
        let m : Moving = (with_bytes_moved t n).moving in
        let a = and_parts (not (n == 0)) ((residual m == 0) && (m.ccw.chain_data && is_none t.fault)) e in
        let b = and_parts (residual m == 0) (m.ccw.chain_data && is_none t.fault) a.1 in
        let c = and_parts m.ccw.chain_data (is_none t.fault) b.1 in
        chained-kept storage orb p.acts (p.moved ++ each_below (next_place t.moving) n) (with_bytes_moved t n) (none-fault t.fault c.1) c.0
        (with_bytes_moved-tied earlier laws orb p.acts p.moved t n l k)
      where
        none-fault : (o : Option Check) → is_none o ≡ true → is_some o ≡ false
        none-fault None e = refl
        none-fault (Some x) e = absurd (cc e)
    after_bytes_moved-by storage orb p t n false e l k = λ x. inl x

    pub after_bytes_moved-kept : (storage : Contents) (orb : Orb) (p : CommandTrace) (t : Transfer) (n : ℕ) → n ≤ t.moving.left → Tied earlier orb p.acts p.moved t →
        is_some (after_bytes_moved storage t n).fault ≡ true → (is_some t.fault ≡ true) ⊎ (has_check orb (trace_moved_on storage t n p).acts ≡ true)
    after_bytes_moved-kept storage orb p t n l k = after_bytes_moved-by storage orb p t n (chains_data (with_bytes_moved t n) n) refl l k

    -- storage refuses the next bytes
    fetch-some : (storage : Contents) (key place count : ℕ) (check : Check) → checked (fetched storage key place count) ≡ Err check → 1 ≤ count
    fetch-some storage key place zero check e = absurd (cc e)
    fetch-some storage key place (suc n) check e = omega arith

    pub next-begins : (orb : Orb) (acts : Sequence Act) (ps : List (Option ℕ)) (t : Transfer) → Tied earlier orb acts ps t → t.moving.skipped ≡ false → 1 ≤ t.moving.left →
        IsBeginning (ps ++ Some t.moving.piece ∷ []) (places_of orb acts)
    next-begins orb acts ps t k s l =
        let m : Moving = t.moving in
        let place : next_place m 0 ≡ Some m.piece =
        ap (λ (b : Bool). if b then None else Some (m.piece + 0)) s ∙ ap (λ (n : ℕ). Some n) (let z : m.piece + 0 ≡ m.piece = omega arith in z) in
        subst (λ (x : Option ℕ). IsBeginning (ps ++ x ∷ []) (places_of orb acts)) place
        (spot-begins orb (data_areas orb acts) (with_bytes_moved t 1) (ps ++ each_below (next_place m) 1) (with_bytes_moved-tied earlier laws orb acts ps t 1 l k).spot)

    copy-by : (storage : Contents) (orb : Orb) (acts : Sequence Act) (ps : List (Option ℕ)) (t : Transfer) (check : Check) (b : Bool) → t.moving.skipped ≡ b →
        (if b then Ok [] else checked (fetched storage t.walk.orb.key t.moving.piece (room t.moving))) ≡ Err check → Tied earlier orb acts ps t → CantFetch storage orb acts ps
    copy-by storage orb acts ps t check true s e k = absurd (cc e)
    copy-by storage orb acts ps t check false s e k =
        let m : Moving = t.moving in
        let some : 1 ≤ room m = fetch-some storage t.walk.orb.key m.piece (room m) check e in
        let within : room m ≤ m.left = min-le_left m.left 256 in
        let key : t.walk.orb.key ≡ orb.key = ap (λ (x : WalkPosition). x.orb.key) k.walk in (
          m.piece,
          next-begins orb acts ps t k s (omega (arith, some, within)),
          λ bytes o. cc (sym e ∙ ap (λ (x : ℕ). checked (fetched storage x m.piece (room m))) key ∙ ap (λ (n : ℕ). checked (fetched storage orb.key m.piece n)) (room-same orb acts ps t k)
              ∙ ap checked o),
        )

    pub copy-kept : (storage : Contents) (orb : Orb) (acts : Sequence Act) (ps : List (Option ℕ)) (t : Transfer) (b : Bool) (r : Result (List ℕ) Check) → access.copied storage t.walk.orb.key t.moving ≡ r →
        Tied earlier orb acts ps t → is_some (if b then with_bytes_offered t [] else with_bytes_fetched t r).transfer.fault ≡ true → (is_some t.fault ≡ true) ⊎ CantFetch storage orb acts ps
    copy-kept storage orb acts ps t true r e k f = inl f
    copy-kept storage orb acts ps t false (Ok bytes) e k f = inl f
    copy-kept storage orb acts ps t false (Err check) e k f = inr (copy-by storage orb acts ps t check t.moving.skipped refl e k)

-- a check that is kept stays
pub fault-stays : (o p : Option Check) → (p ≡ None → o ≡ None) → is_some o ≡ true → is_some p ≡ true
fault-stays o (Some check) f e = refl
fault-stays o None f e = absurd (cc (sym (ap (λ (x : Option Check). is_some x) (f refl)) ∙ e))
