-- What is kept of a transfer agrees with what was done for its program, act by act.
use Rattle.std.proofs.Common.{◌≡◌, refl, ap, sym, ◌∙◌, subst, ℕ, suc, ◌+◌, ◌%◌, ◌≤◌, ◌<◌, Bool, true, false, List, [], ◌++◌, length, Option, Some, None, Result, Ok, Err, inl, inr, arith, append_assoc, length-append}
use Rattle.std.specs.Prelude.{◌⊎◌, ◌&&◌, ◌||◌, ◌==◌, not, min, nat_lt, is_some, IsSome, ◌↔◌, if◌then◌else◌}
use Rattle.std.proofs.lemmas.Bool.{and_parts, eqb-true, eqb-false, ltb-true}
use Rattle.std.proofs.Math.Nat.{min-le_right}
use Rattle.orb_block.specs.declared.Orb.{Orb}
use Rattle.ccw_codec.specs.declared.Ccw.{Ccw}
use Rattle.storage_keys.specs.Storage.{Contents}
use Rattle.ccw_walk.specs.declared.check.Check.{Check}
use Rattle.ccw_walk.specs.declared.check.Check.TheVariants.{Program}
use Rattle.ccw_walk.specs.declared.program.Advance.{Advance}
use Rattle.ccw_walk.specs.declared.program.Advance.TheVariants as advance
use Rattle.ccw_walk.specs.declared.program.Reading.TheVariants.{Takes}
use Rattle.ccw_walk.specs.Sequences.{Sequence, Nothing, ◌▸◌, ◌▸▸◌, count}
use Rattle.ccw_walk.specs.Acts.{Act}
use Rattle.ccw_walk.specs.Programs.{IsProgram, Command, role_of, next, commands, commands_after, join_last, code}
use Rattle.ccw_walk.specs.Advancing.{acts_from_next, advance_acts, advance_of_acts}
use Rattle.ccw_walk.specs.Positions.{WalkPosition, walk_position, after_acts}
use Rattle.idaw.specs.declared.ListKind.{ListKind}
use Rattle.idaw.specs.declared.WordFault.{WordFault}
use Rattle.idaw.specs.declared.WordFault.TheVariants.{LeftmostBit, OffBlock, OutsideStorage}
use Rattle.idaw.specs.Lists.{block, kind_of, word_fault, has_leftmost_bit, is_outside}
use Rattle.idaw.specs.Places.{Reach, place_of_byte, each_below, reach_with_word, covered}
use Rattle.run_laws.specs.DataAreas.{places_of_bytes, reach, brings_in, data_areas, reaches_after, counts, word_after, reaches_with}
use Rattle.data_move.specs.Moving as movement
use Rattle.data_move.specs.Moving.{Moving, moving_begun, with_piece, moved, next_place, needs_word, residual, uses_list, room, IsAt, MayFetch}
use Rattle.data_move.specs.Accesses as access
use Rattle.data_move.specs.declared.transfer.Transfer.{Transfer}
use Rattle.data_move.specs.declared.transfer.CommandStart.{CommandStart}
use Rattle.data_move.specs.declared.transfer.CommandStart.TheVariants as outcome
use Rattle.data_move.specs.Commands.{is_skipped, transfer_of, command_begins, goes_to, with_located, located_transfer, begun_with_room, with_room, brings}
use Rattle.ccw_codec.specs.Command.{class_of}
use Rattle.data_move.specs.DataChaining.{with_bytes_moved}
use Rattle.step_laws.specs.Walks.{AreWalks}
use Rattle.run_laws.specs.Agreeing.{AreAbove}
use Rattle.chan_events.specs.declared.reply.Entry.{Entry}
use Rattle.channel_config.specs.Lawful.{IsLawful}
use Rattle.channel_config.specs.Setup.{Setup}
use Rattle.machine_model.specs.State.{State, opening_of}
use Rattle.machine_model.specs.Steps.{Run}
use Rattle.data_move.specs.Accesses.{where_right}
use Rattle.run_laws.proofs.Traces.MachineActs.{act_of_right, act_of_word, word_acts, located_acts, room_acts}
use Rattle.run_laws.specs.ProgramClaims.{IsBeginning, IsSuspended, has_check, EndsAtCheck}
use Rattle.run_laws.proofs.Bytes.Lists.{some-begin, length-places, length-each_below}
use Rattle.run_laws.proofs.Traces.Advances.{Went, UnlessStops, advance-went, advance-ends}
use Rattle.run_laws.proofs.Traces.Standing.{Stands, acts-stand}

-- what is proved below of a command word's data, and of a program that goes on
pub record AreLaws : Type 0 where
  pub walks : AreWalks
  pub above : (setup : Setup) (h : List Entry) (s : State) → IsLawful setup → Run (opening_of setup) h s → AreAbove s
  pub begins : (kind : ListKind) (ccw : Ccw) (skipped : Bool) → IsAt (record { ccw = ccw; skipped = skipped; words = [] }) (moving_begun kind ccw skipped)
  pub word : (r : Reach) (m : Moving) (word : ℕ) → IsAt r m → MayFetch m word → IsAt (reach_with_word r word) (with_piece m word)
  pub stays : (r : Reach) (m : Moving) (word : ℕ) → IsAt r m → uses_list m ≡ true →
      each_below (place_of_byte (block m.kind) (reach_with_word r word)) m.done ≡ each_below (place_of_byte (block m.kind) r) m.done
  pub moved : (r : Reach) (m : Moving) (n : ℕ) → IsAt r m → n ≤ m.left → IsAt r (movement.moved m n)
  pub places : (r : Reach) (m : Moving) (n : ℕ) → IsAt r m → n ≤ m.left →
      each_below (place_of_byte (block m.kind) r) m.done ++ each_below (next_place m) n ≡ each_below (place_of_byte (block m.kind) r) (m.done + n)
  pub leads : (orb : Orb) (before acts : Sequence Act) → after_acts (walk_position orb before) acts ≡ walk_position orb (before ▸▸ acts)
  pub stands : (storage : Contents) (old : WalkPosition) → IsSome (advance_of_acts old (advance_acts storage old)) ↔ IsSome old.next
  pub goes : (storage : Contents) (orb : Orb) (before : Sequence Act) → IsProgram orb before → IsProgram orb (before ▸▸ advance_acts storage (walk_position orb before))

-- the command at work has this code
abbrev pub HasCode : Sequence Command → ℕ → Type 0
HasCode Nothing c = ⊥
HasCode (xs ▸ x) c = code x ≡ c

-- write and control are the codes of bytes that go to the device
outward-codes : (code : ℕ) (a b c : Bool) → (code % 4 == 1) ≡ a → (code % 4 == 3) ≡ b → (code % 2 == 1) ≡ c → c ≡ (a || b)
outward-codes code true true c e f g = absurd (omega (arith, eqb-true (code % 4) 1 e, eqb-true (code % 4) 3 f))
outward-codes code true false true e f g = refl
outward-codes code true false false e f g = absurd (omega (arith, eqb-true (code % 4) 1 e, eqb-false (code % 2) 1 g))
outward-codes code false true true e f g = refl
outward-codes code false true false e f g = absurd (omega (arith, eqb-true (code % 4) 3 f, eqb-false (code % 2) 1 g))
outward-codes code false false true e f g = absurd (omega (arith, eqb-false (code % 4) 1 e, eqb-false (code % 4) 3 f, eqb-true (code % 2) 1 g))
outward-codes code false false false e f g = refl

skipped-same : (code : ℕ) (ccw : Ccw) → is_skipped code ccw ≡ (ccw.skip && brings_in code)
skipped-same code ccw =
    ap (λ (outward : Bool). ccw.skip && not outward) (outward-codes code (code % 4 == 1) (code % 4 == 3) (code % 2 == 1) refl refl refl)

-- the data of a block as it takes control
pub data-begins : AreLaws → (kind : ListKind) (code : ℕ) (ccw : Ccw) → IsAt (reach code ccw) (moving_begun kind ccw (is_skipped code ccw))
data-begins laws kind code ccw =
    subst (λ (skips : Bool). IsAt (record { ccw = ccw; skipped = skips; words = [] }) (moving_begun kind ccw (is_skipped code ccw))) (skipped-same code ccw)
    (laws.begins kind ccw (is_skipped code ccw))

-- the places of the bytes that were moved are those of the blocks before, and the first of the latest
abbrev pub IsMovedTo : Orb → Sequence Reach → Transfer → List (Option ℕ) → Type 0
IsMovedTo orb Nothing t ps = ⊥
IsMovedTo orb (rs ▸ r) t ps =
    IsAt r t.moving × (ps ≡ places_of_bytes (block (kind_of orb)) rs ++ each_below (place_of_byte (block (kind_of orb)) r) t.moving.done)

-- a change of what isn't told of
pub spot-changed : (orb : Orb) (rs : Sequence Reach) (t u : Transfer) (ps : List (Option ℕ)) → u.moving ≡ t.moving → (is_some t.fault ≡ true → is_some u.fault ≡ true) →
    IsMovedTo orb rs t ps → IsMovedTo orb rs u ps
spot-changed orb Nothing t u ps m f k = k
spot-changed orb (rs ▸ r) t u ps m f k = (
  subst (λ (x : Moving). IsAt r x) (sym m) k.0,
  k.1 ∙ ap (λ (x : Moving). places_of_bytes (block (kind_of orb)) rs ++ each_below (place_of_byte (block (kind_of orb)) r) x.done) (sym m),
)

-- how many bytes there are
lists-within : (b : Bool) (r : Reach) (m : Moving) → uses_list m ≡ b → IsAt r m → m.done + m.left ≤ m.ccw.count
lists-within true r m e a =
    let f : m.done + m.left ≡ min (covered (block m.kind) r.words) m.ccw.count = a.listed e in
    let g : min (covered (block m.kind) r.words) m.ccw.count ≤ m.ccw.count = min-le_right (covered (block m.kind) r.words) m.ccw.count in
    omega (arith, f, g)
lists-within false r m e a = let f : m.done + m.left ≡ m.ccw.count = a.whole e in omega (arith, f)

pub at-within : (r : Reach) (m : Moving) → IsAt r m → m.done + m.left ≤ m.ccw.count
at-within r m a = lists-within (uses_list m) r m refl a

pub done-within : (r : Reach) (t : Transfer) → IsAt r t.moving → t.moving.done ≤ r.ccw.count
done-within r t a =
    let f : t.moving.done + t.moving.left ≤ t.moving.ccw.count = at-within r t.moving a in
    let g : t.moving.ccw.count ≡ r.ccw.count = ap (λ (x : Ccw). x.count) a.ccw in
    omega (arith, f, g)

pub ccw-of : (r : Reach) (t : Transfer) → IsAt r t.moving → t.moving.ccw ≡ r.ccw
ccw-of r t a = a.ccw

-- so the places are a beginning of the command's, and the count is right
pub spot-begins : (orb : Orb) (rs : Sequence Reach) (t : Transfer) (ps : List (Option ℕ)) → IsMovedTo orb rs t ps → IsBeginning ps (places_of_bytes (block (kind_of orb)) rs)
spot-begins orb Nothing t ps k = absurd k
spot-begins orb (rs ▸ r) t ps k = some-begin (block (kind_of orb)) r rs t.moving.done ps (done-within r t k.0) k.1

pub spot-counts : (orb : Orb) (rs : Sequence Reach) (t : Transfer) (ps : List (Option ℕ)) → IsMovedTo orb rs t ps → counts rs ≡ length ps + residual t.moving
spot-counts orb Nothing t ps k = absurd k
spot-counts orb (rs ▸ r) t ps k =
    let b : ℕ = block (kind_of orb) in
    let e : length ps ≡ length (places_of_bytes b rs) + length (each_below (place_of_byte b r) t.moving.done) =
    ap length k.1 ∙ length-append (places_of_bytes b rs) (each_below (place_of_byte b r) t.moving.done) in
    let f : length (each_below (place_of_byte b r) t.moving.done) ≡ t.moving.done = length-each_below (place_of_byte b r) t.moving.done in
    let g : length (places_of_bytes b rs) ≡ counts rs = length-places b rs in
    let h : t.moving.done ≤ r.ccw.count = done-within r t k.0 in
    let same : t.moving.ccw.count ≡ r.ccw.count = ap (λ (x : Ccw). x.count) (ccw-of r t k.0) in
    omega (arith, e, f, g, h, same)

-- nothing was moved, shown or ended of it
abbrev pub IsFresh : Transfer → Type 0
IsFresh t = (t.sequence ≡ 0) × (t.offered ≡ 0) × (t.stopped ≡ false) × (t.ended ≡ false) × (t.unchained ≡ false)

-- so many commands were sent under earlier numbers
module _ (earlier : ℕ) where
  pub record Tied (orb : Orb) (acts : Sequence Act) (ps : List (Option ℕ)) (t : Transfer) : Type 0 where
    pub walk : t.walk ≡ walk_position orb acts
    pub program : IsProgram orb acts
    pub stands : next orb acts ≡ None
    pub chained : is_some t.fault ≡ false → (role_of orb acts).chained ≡ t.moving.ccw.chain_data
    pub coded : HasCode (commands orb acts) t.code
    pub kind : t.moving.kind ≡ kind_of orb
    pub spot : IsMovedTo orb (data_areas orb acts) t ps
    pub number : count (commands orb acts) ≡ earlier + t.command
    pub ends : EndsAtCheck orb acts
    pub checked : is_some t.fault ≡ false → has_check orb acts ≡ false

  -- a transfer of the same command, as far as it has come
  same-command : (orb : Orb) (acts : Sequence Act) (ps qs : List (Option ℕ)) (t u : Transfer) → u.walk ≡ t.walk → u.moving.ccw ≡ t.moving.ccw → u.moving.kind ≡ t.moving.kind →
      u.code ≡ t.code → u.command ≡ t.command → (is_some u.fault ≡ false → is_some t.fault ≡ false) → IsMovedTo orb (data_areas orb acts) u qs → Tied orb acts ps t → Tied orb acts qs u
  same-command orb acts ps qs t u w ccw kind c n f spot k = record {
    walk = w ∙ k.walk;
    program = k.program;
    stands = k.stands;
    chained = λ e. k.chained (f e) ∙ ap (λ (x : Ccw). x.chain_data) (sym ccw);
    coded = subst (λ (x : ℕ). HasCode (commands orb acts) x) (sym c) k.coded;
    kind = kind ∙ k.kind;
    spot = spot;
    number = k.number ∙ ap (λ (x : ℕ). earlier + x) (sym n);
    ends = k.ends;
    checked = λ e. k.checked (f e);
  }

  pub changed : (orb : Orb) (acts : Sequence Act) (ps : List (Option ℕ)) (t u : Transfer) → u.walk ≡ t.walk → u.moving ≡ t.moving → u.code ≡ t.code → u.command ≡ t.command →
      (is_some u.fault ≡ false → is_some t.fault ≡ false) → (is_some t.fault ≡ true → is_some u.fault ≡ true) → Tied orb acts ps t → Tied orb acts ps u
  changed orb acts ps t u w m c n f g k =
      same-command orb acts ps ps t u w (ap (λ (x : Moving). x.ccw) m) (ap (λ (x : Moving). x.kind) m) c n f (spot-changed orb (data_areas orb acts) t u ps m g k.spot) k

  faulted : (orb : Orb) (acts : Sequence Act) (ps : List (Option ℕ)) (t : Transfer) (check : Check) → Tied orb acts ps t → Tied orb acts ps (record t { fault = Some check })
  faulted orb acts ps t check k = changed orb acts ps t (record t { fault = Some check }) refl refl refl refl (λ e. absurd (cc e)) (λ e. refl) k

  module _ (laws : AreLaws) where
    -- a command begins, or can't, or the program is suspended where one may begin
    abbrev pub Begins : Orb → Sequence Act → Sequence Act → ℕ → CommandStart → Type 0
    Begins orb before acts n (outcome.Begins t) =
        Tied orb acts [] t × (t.command ≡ n) × ((c : Command) × (commands orb acts ≡ commands orb before ▸ c) × (code c ≡ t.code) × IsFresh t)
        × (is_some t.fault ≡ false)
    Begins orb before acts n outcome.Suspends =
        IsProgram orb acts × (data_areas orb acts ≡ data_areas orb before) × (commands orb acts ≡ commands orb before) × ((role_of orb acts).chained ≡ false) × IsSuspended orb acts × EndsAtCheck orb acts
    Begins orb before acts n (outcome.Stops check) =
        IsProgram orb acts × (data_areas orb acts ≡ data_areas orb before) × (commands orb acts ≡ commands orb before) × (next orb acts ≡ None) × EndsAtCheck orb acts

    taken-begins : (orb : Orb) (before acts : Sequence Act) (walk : WalkPosition) (n : ℕ) (ccw : Ccw) → walk ≡ walk_position orb acts →
        (role_of orb before).chained ≡ false → count (commands orb before) + 1 ≡ earlier + n → IsProgram orb acts →
        commands orb acts ≡ commands_after (role_of orb before).chained (commands orb before) (Takes ccw) →
        data_areas orb acts ≡ reaches_after (role_of orb before).chained (commands orb before) (data_areas orb before) (Takes ccw) → next orb acts ≡ None →
        (role_of orb acts).chained ≡ ccw.chain_data → EndsAtCheck orb acts → has_check orb acts ≡ false → Begins orb before acts n (outcome.Begins (transfer_of walk n ccw))
    taken-begins orb before acts walk n ccw w c l p f g h i en hc =
        let cs : Sequence Command = commands orb before in
        let commanded : commands orb acts ≡ cs ▸ record { first = ccw; more = Nothing } =
        f ∙ ap (λ (x : Bool). if x then join_last cs ccw else cs ▸ record { first = ccw; more = Nothing }) c in
        let reached : data_areas orb acts ≡ Nothing ▸ reach ccw.command ccw =
        g ∙ ap (λ (x : Bool). reaches_with x cs (data_areas orb before) ccw) c in (
          record {
            walk = w;
            program = p;
            stands = h;
            chained = λ z. i;
            coded = subst (λ (xs : Sequence Command). HasCode xs ccw.command) (sym commanded) refl;
            kind = ap (λ (x : WalkPosition). kind_of x.orb) w;
            spot =
                subst (λ (rs : Sequence Reach). IsMovedTo orb rs (transfer_of walk n ccw) []) (sym reached)
                (data-begins laws (kind_of walk.orb) ccw.command ccw, refl);
            number = ap count commanded ∙ (let z : suc (count cs) ≡ count cs + 1 = omega arith in z) ∙ l;
            ends = en;
            checked = λ z. hc;
          },
          refl,
          (record { first = ccw; more = Nothing }, commanded, refl, (refl, refl, refl, refl, refl)),
          refl,
        )

    advance-begins : (orb : Orb) (before acts : Sequence Act) (walk : WalkPosition) (n : ℕ) (a : Option Advance) → walk ≡ walk_position orb acts → (role_of orb before).chained ≡ false →
        count (commands orb before) + 1 ≡ earlier + n → IsProgram orb acts →
        Went (role_of orb before).chained (commands orb before) (commands orb acts) (data_areas orb before) (data_areas orb acts) (next orb acts) (role_of orb acts) a →
        ((x : Advance) → a ≡ Some x → Stands orb acts x) → (a ≡ None → next orb acts ≡ None) → EndsAtCheck orb acts × UnlessStops a (has_check orb acts) →
        Begins orb before acts n (command_begins walk n a)
    advance-begins orb before acts walk n (Some (advance.Takes ccw)) w c l p k s z x = taken-begins orb before acts walk n ccw w c l p k.0 k.1 k.2 k.3 x.0 x.1
    advance-begins orb before acts walk n (Some advance.Suspends) w c l p k s z x = (p, k.1, k.0, k.2 ∙ c, s advance.Suspends refl, x.0)
    advance-begins orb before acts walk n (Some (advance.Stops check)) w c l p k s z x = (p, k.1, k.0, s (advance.Stops check) refl, x.0)
    advance-begins orb before acts walk n None w c l p k s z x = (p, k.1, k.0, z refl, x.0)

    -- where a program does not go on, no block was next
    pub none-next : (storage : Contents) (orb : Orb) (before : Sequence Act) → let old : WalkPosition = walk_position orb before in
        advance_of_acts old (advance_acts storage old) ≡ None → next orb before ≡ None
    none-next storage orb before = by (next orb before) refl
      where
        old : WalkPosition
        old = walk_position orb before

        by : (n : Option ℕ) → old.next ≡ n → advance_of_acts old (advance_acts storage old) ≡ None → n ≡ None
        by None e a = refl
        by (Some address) e a =
            let s : IsSome (advance_of_acts old (advance_acts storage old)) = (laws.stands storage old).1 (ap (λ (x : Option ℕ). is_some x) e) in
            absurd (cc (sym (ap (λ (x : Option Advance). is_some x) a) ∙ s))

    pub goes-begins : (storage : Contents) (orb : Orb) (before : Sequence Act) (n : ℕ) → (role_of orb before).chained ≡ false → count (commands orb before) + 1 ≡ earlier + n →
        IsProgram orb before → has_check orb before ≡ false → EndsAtCheck orb before →
        Begins orb before (before ▸▸ advance_acts storage (walk_position orb before)) n (goes_to storage n (walk_position orb before)).outcome
    goes-begins storage orb before n c l p hc en =
        let old : WalkPosition = walk_position orb before in
        advance-begins orb before (before ▸▸ advance_acts storage old) (after_acts old (advance_acts storage old)) n (advance_of_acts old (advance_acts storage old))
        (laws.leads orb before (advance_acts storage old)) c l (laws.goes storage orb before p) (advance-went storage orb before)
        (λ x. acts-stand orb before (advance_acts storage old) x (laws.leads orb before))
        (λ e.
        let none : next orb before ≡ None = none-next storage orb before e in
        subst (λ (xs : Sequence Act). next orb (before ▸▸ xs) ≡ None) (sym (ap (λ (x : Option ℕ). acts_from_next storage old x) none)) none)
        (advance-ends storage orb before hc en)

    -- a word of an indirect list
    needed-left : (m : Moving) → needs_word m ≡ true → m.left ≡ 0
    needed-left m e = eqb-true m.left 0 (and_parts (m.left == 0) (nat_lt m.done m.ccw.count) e).0

    needed-more : (m : Moving) → needs_word m ≡ true → m.done < m.ccw.count
    needed-more m e = ltb-true m.done m.ccw.count (and_parts (m.left == 0) (nat_lt m.done m.ccw.count) e).1

    list-used : (b : Bool) (r : Reach) (m : Moving) → uses_list m ≡ b → IsAt r m → needs_word m ≡ true → uses_list m ≡ true
    list-used true r m e a n = e
    list-used false r m e a n =
        let f : m.done + m.left ≡ m.ccw.count = a.whole e in
        let g : m.left ≡ 0 = needed-left m n in
        let h : m.done < m.ccw.count = needed-more m n in
        absurd (omega (arith, f, g, h))

    right-word : (l f d o : Bool) → (if l then Some LeftmostBit else if not f && not d then Some OffBlock else if o then Some OutsideStorage else None) ≡ None →
        (f ≡ true) ⊎ (d ≡ true)
    right-word true f d o e = absurd (cc e)
    right-word false true d o e = inl refl
    right-word false false true o e = inr refl
    right-word false false false o e = absurd (cc e)

    may-fetch : (r : Reach) (m : Moving) (word size : ℕ) → IsAt r m → needs_word m ≡ true → word_fault m.kind (m.words == 0) word size ≡ None → MayFetch m word
    may-fetch r m word size a n e = record {
      list = list-used (uses_list m) r m refl a n;
      needed = n;
      begins =
          elim (right-word (has_leftmost_bit m.kind word) (m.words == 0) (word % block m.kind == 0) (is_outside m.kind word size) e) [
            | inl x ↦ inl (eqb-true m.words 0 x)
            | inr x ↦ inr (eqb-true (word % block m.kind) 0 x)
          ];
    }

    same-places : (orb : Orb) (r : Reach) (m : Moving) (word : ℕ) → m.kind ≡ kind_of orb → IsAt r m → needs_word m ≡ true →
        each_below (place_of_byte (block (kind_of orb)) r) m.done ≡ each_below (place_of_byte (block (kind_of orb)) (reach_with_word r word)) m.done
    same-places orb r m word e a n =
        subst (λ (x : ListKind). each_below (place_of_byte (block x) r) m.done ≡ each_below (place_of_byte (block x) (reach_with_word r word)) m.done) e
        (sym (laws.stays r m word a (list-used (uses_list m) r m refl a n)))

    right-spot : (orb : Orb) (rs : Sequence Reach) (t : Transfer) (ps : List (Option ℕ)) (word size : ℕ) → t.moving.kind ≡ kind_of orb → is_some t.fault ≡ false →
        needs_word t.moving ≡ true → word_fault t.moving.kind (t.moving.words == 0) word size ≡ None → IsMovedTo orb rs t ps →
        IsMovedTo orb (word_after rs word) (record t { moving = with_piece t.moving word }) ps
    right-spot orb Nothing t ps word size e f n w k = k
    right-spot orb (rs ▸ r) t ps word size e f n w k = (
      laws.word r t.moving word k.0 (may-fetch r t.moving word size k.0 n w),
      k.1 ∙ ap (λ (xs : List (Option ℕ)). places_of_bytes (block (kind_of orb)) rs ++ xs) (same-places orb r t.moving word e k.0 n),
    )

    right-tied : (orb : Orb) (acts : Sequence Act) (ps : List (Option ℕ)) (t : Transfer) (word size : ℕ) (w : Option WordFault) →
        word_fault t.moving.kind (t.moving.words == 0) word size ≡ w → is_some t.fault ≡ false → needs_word t.moving ≡ true → Tied orb acts ps t →
        Tied orb (acts ▸▸ act_of_right w word) ps (with_located t (where_right w (with_piece t.moving word)))
    right-tied orb acts ps t word size None e f n k = record {
      walk = k.walk;
      program = k.program;
      stands = k.stands;
      chained = k.chained;
      coded = k.coded;
      kind = k.kind;
      spot = right-spot orb (data_areas orb acts) t ps word size k.kind f n e k.spot;
      number = k.number;
      ends = (k.checked f, k.ends);
      checked = λ z. k.checked f;
    }
    right-tied orb acts ps t word size (Some fault) e f n k = faulted orb acts ps t Program k

    word-tied : (orb : Orb) (acts : Sequence Act) (ps : List (Option ℕ)) (t : Transfer) (size : ℕ) (w : Result ℕ Check) → is_some t.fault ≡ false →
        needs_word t.moving ≡ true → Tied orb acts ps t → Tied orb (acts ▸▸ act_of_word t.moving size w) ps (with_located t (access.piece_begun t.moving size w))
    word-tied orb acts ps t size (Ok word) f n k = right-tied orb acts ps t word size (word_fault t.moving.kind (t.moving.words == 0) word size) refl f n k
    word-tied orb acts ps t size (Err check) f n k = faulted orb acts ps t check k

    need-tied : (storage : Contents) (orb : Orb) (acts : Sequence Act) (ps : List (Option ℕ)) (t : Transfer) (b : Bool) → needs_word t.moving ≡ b → is_some t.fault ≡ false →
        Tied orb acts ps t →
        Tied orb (acts ▸▸ (if b then act_of_word t.moving (length storage.bytes) (access.word_fetched storage t.walk.orb.key t.moving) else Nothing)) ps
        (with_located t (if b then access.piece_begun t.moving (length storage.bytes) (access.word_fetched storage t.walk.orb.key t.moving) else Ok t.moving))
    need-tied storage orb acts ps t true n f k = word-tied orb acts ps t (length storage.bytes) (access.word_fetched storage t.walk.orb.key t.moving) f n k
    need-tied storage orb acts ps t false n f k = k

    fault-tied : (storage : Contents) (orb : Orb) (acts : Sequence Act) (ps : List (Option ℕ)) (t : Transfer) (b : Bool) → is_some t.fault ≡ b → Tied orb acts ps t →
        Tied orb (acts ▸▸ (if b then Nothing else word_acts storage t.walk.orb.key t.moving)) ps
        (if b then t else with_located t (access.located storage t.walk.orb.key t.moving))
    fault-tied storage orb acts ps t true f k = k
    fault-tied storage orb acts ps t false f k = need-tied storage orb acts ps t (needs_word t.moving) refl f k

    pub located-tied : (storage : Contents) (orb : Orb) (acts : Sequence Act) (ps : List (Option ℕ)) (t : Transfer) → Tied orb acts ps t →
        Tied orb (acts ▸▸ located_acts storage t) ps (located_transfer storage t)
    located-tied storage orb acts ps t k = fault-tied storage orb acts ps t (is_some t.fault) refl k

    -- so it is where the command begins
    room-by : (storage : Contents) (orb : Orb) (acts : Sequence Act) (t : Transfer) (b : Bool) → Tied orb acts [] t →
        Tied orb (acts ▸▸ (if b then located_acts storage t else Nothing)) [] (if b then with_room storage t else record { transfer = t; room = 0 }).transfer
    room-by storage orb acts t true k = located-tied storage orb acts [] t k
    room-by storage orb acts t false k = k

    pub room-tied : (storage : Contents) (orb : Orb) (acts : Sequence Act) (t : Transfer) → Tied orb acts [] t →
        Tied orb (acts ▸▸ room_acts storage (outcome.Begins t)) [] (begun_with_room storage t).transfer
    room-tied storage orb acts t k = room-by storage orb acts t (brings (class_of t.code)) k

    -- bytes are moved
    moved-spot : (orb : Orb) (rs : Sequence Reach) (t : Transfer) (ps : List (Option ℕ)) (n : ℕ) → t.moving.kind ≡ kind_of orb → n ≤ t.moving.left → IsMovedTo orb rs t ps →
        IsMovedTo orb rs (with_bytes_moved t n) (ps ++ each_below (next_place t.moving) n)
    moved-spot orb Nothing t ps n e l k = absurd k
    moved-spot orb (rs ▸ r) t ps n e l k =
        let b : ℕ = block (kind_of orb) in
        let m : Moving = t.moving in
        let more : each_below (place_of_byte b r) m.done ++ each_below (next_place m) n ≡ each_below (place_of_byte b r) (m.done + n) =
        subst (λ (x : ListKind). each_below (place_of_byte (block x) r) m.done ++ each_below (next_place m) n ≡ each_below (place_of_byte (block x) r) (m.done + n)) e
        (laws.places r m n k.0 l) in (
          laws.moved r m n k.0 l,
          ap (λ (xs : List (Option ℕ)). xs ++ each_below (next_place m) n) k.1
              ∙ append_assoc (places_of_bytes b rs) (each_below (place_of_byte b r) m.done) (each_below (next_place m) n)
              ∙ ap (λ (xs : List (Option ℕ)). places_of_bytes b rs ++ xs) more,
        )

    pub with_bytes_moved-tied : (orb : Orb) (acts : Sequence Act) (ps : List (Option ℕ)) (t : Transfer) (n : ℕ) → n ≤ t.moving.left → Tied orb acts ps t →
        Tied orb acts (ps ++ each_below (next_place t.moving) n) (with_bytes_moved t n)
    with_bytes_moved-tied orb acts ps t n l k =
        same-command orb acts ps (ps ++ each_below (next_place t.moving) n) t (with_bytes_moved t n) refl refl refl refl refl (λ e. e)
        (moved-spot orb (data_areas orb acts) t ps n k.kind l k.spot) k
