-- Data chaining, and bytes that are moved.
use Rattle.std.proofs.Common.{◌≡◌, refl, ap, sym, ◌∙◌, subst, ℕ, ◌+◌, ◌-◌, ◌≤◌, Bool, true, false, List, ◌++◌, Option, Some, None, arith}
use Rattle.std.specs.Prelude.{◌&&◌, ◌==◌, not, is_some, is_none, if◌then◌else◌}
use Rattle.std.proofs.lemmas.Bool.{and_parts, eqb-true}
use Rattle.std.proofs.lemmas.List.{append-nil}
use Rattle.orb_block.specs.declared.Orb.{Orb}
use Rattle.ccw_codec.specs.declared.Ccw.{Ccw}
use Rattle.storage_keys.specs.Storage.{Contents}
use Rattle.ccw_walk.specs.declared.check.Check.{Check}
use Rattle.ccw_walk.specs.declared.program.Advance.{Advance}
use Rattle.ccw_walk.specs.declared.program.Advance.TheVariants as advance
use Rattle.ccw_walk.specs.declared.program.Reading.TheVariants.{Takes}
use Rattle.ccw_walk.specs.Sequences.{Sequence, Nothing, ◌▸◌, ◌▸▸◌, count}
use Rattle.ccw_walk.specs.Acts.{Act, Used_up}
use Rattle.ccw_walk.specs.Programs.{IsProgram, Command, role_of, latest, next, tried, commands, commands_after, join_last}
use Rattle.ccw_walk.specs.Advancing.{acts_from_next, advance_acts, advance_of_acts}
use Rattle.ccw_walk.specs.Positions.{after_count_used_up, WalkPosition, walk_position, after_acts}
use Rattle.idaw.specs.Lists.{block, kind_of}
use Rattle.idaw.specs.Places.{Reach, place_of_byte, each_below}
use Rattle.run_laws.specs.DataAreas.{places_of_bytes, reach, data_areas, reaches_after, reaches_with}
use Rattle.data_move.specs.Moving as movement
use Rattle.data_move.specs.Moving.{Moving, next_place, residual, IsAt}
use Rattle.data_move.specs.declared.transfer.Transfer.{Transfer}
use Rattle.data_move.specs.Commands.{data_of}
use Rattle.data_move.specs.DataChaining.{chains_data, with_next_ccw, chained_from, data_chained, with_bytes_moved, after_bytes_moved}
use Rattle.run_laws.specs.ProgramClaims.{has_check, EndsAtCheck}
use Rattle.run_laws.proofs.Traces.MachineActs as doing
use Rattle.run_laws.specs.Traces.{CommandTrace}
use Rattle.run_laws.proofs.Traces.MachineActs.{chained_acts, with_acts, with_places}
use Rattle.run_laws.proofs.Bytes.Lists.{none-some}
use Rattle.run_laws.proofs.Traces.Advances.{Went, UnlessStops, advance-went, advance-ends}
use Rattle.run_laws.proofs.Traces.Standing.{Stands, acts-stand, suspended-unchained}
use Rattle.run_laws.proofs.Traces.Ties.{AreLaws, data-begins, HasCode, IsMovedTo, Tied, none-next, spot-changed, ccw-of, done-within, with_bytes_moved-tied}
use Rattle.run_laws.proofs.Traces.Sequences.{joined-in-order}

module _ (laws : AreLaws) where
  -- where the count is used up, the places are all of them
  whole : (orb : Orb) (rs : Sequence Reach) (t : Transfer) (ps : List (Option ℕ)) → residual t.moving ≡ 0 → IsMovedTo orb rs t ps → ps ≡ places_of_bytes (block (kind_of orb)) rs
  whole orb Nothing t ps z k = absurd k
  whole orb (rs ▸ r) t ps z k =
      let le : t.moving.done ≤ r.ccw.count = done-within r t k.0 in
      let same : t.moving.ccw.count ≡ r.ccw.count = ap (λ (x : Ccw). x.count) (ccw-of r t k.0) in
      let none : t.moving.ccw.count - t.moving.done ≡ 0 = z in
      let all : t.moving.done ≡ r.ccw.count = omega (arith, le, same, none) in
      k.1 ∙ ap (λ (n : ℕ). places_of_bytes (block (kind_of orb)) rs ++ each_below (place_of_byte (block (kind_of orb)) r) n) all

  -- data is chained to a block: one that is joined to the command at work
  joined-code : (cs : Sequence Command) (ccw : Ccw) (c : ℕ) → HasCode cs c → HasCode (join_last cs ccw) c
  joined-code Nothing ccw c k = k
  joined-code (xs ▸ x) ccw c k = k

  joined-length : (cs : Sequence Command) (ccw : Ccw) → count (join_last cs ccw) ≡ count cs
  joined-length Nothing ccw = refl
  joined-length (xs ▸ x) ccw = refl

  joined-spot : (orb : Orb) (cs : Sequence Command) (rs : Sequence Reach) (t : Transfer) (walk : WalkPosition) (ps : List (Option ℕ)) (ccw : Ccw) → walk.orb ≡ orb → HasCode cs t.code →
      ps ≡ places_of_bytes (block (kind_of orb)) rs → IsMovedTo orb (reaches_with true cs rs ccw) (record t { walk = walk; moving = data_of walk t.code ccw; pci_pending = ccw.program_controlled }) ps
  joined-spot orb Nothing rs t walk ps ccw e h w = absurd h
  joined-spot orb (xs ▸ x) rs t walk ps ccw e h w =
      (subst (λ (c : ℕ). IsAt (reach c ccw) (data_of walk t.code ccw)) (sym h) (data-begins laws (kind_of walk.orb) t.code ccw), w ∙ sym (append-nil (places_of_bytes (block (kind_of orb)) rs)))

  -- so many commands were sent under earlier numbers
  module _ (earlier : ℕ) where
    joins : (orb : Orb) (before acts : Sequence Act) (t : Transfer) (walk : WalkPosition) (ps : List (Option ℕ)) (ccw : Ccw) →
        walk ≡ walk_position orb acts → IsProgram orb acts → (role_of orb before).chained ≡ true → HasCode (commands orb before) t.code → t.moving.kind ≡ kind_of orb →
        count (commands orb before) ≡ earlier + t.command → IsMovedTo orb (data_areas orb before) t ps → residual t.moving ≡ 0 →
        commands orb acts ≡ commands_after (role_of orb before).chained (commands orb before) (Takes ccw) →
        data_areas orb acts ≡ reaches_after (role_of orb before).chained (commands orb before) (data_areas orb before) (Takes ccw) → next orb acts ≡ None →
        (role_of orb acts).chained ≡ ccw.chain_data → EndsAtCheck orb acts → has_check orb acts ≡ false →
        Tied earlier orb acts ps (record t { walk = walk; moving = data_of walk t.code ccw; pci_pending = ccw.program_controlled })
    joins orb before acts t walk ps ccw w p c h m l s z f g n i en hc =
        let cs : Sequence Command = commands orb before in
        let commanded : commands orb acts ≡ join_last cs ccw = f ∙ ap (λ (x : Bool). if x then join_last cs ccw else cs ▸ record { first = ccw; more = Nothing }) c in
        let reached : data_areas orb acts ≡ reaches_with true cs (data_areas orb before) ccw =
        g ∙ ap (λ (x : Bool). reaches_with x cs (data_areas orb before) ccw) c in
        record {
          walk = w;
          program = p;
          stands = n;
          chained = λ x. i;
          coded = subst (λ (xs : Sequence Command). HasCode xs t.code) (sym commanded) (joined-code cs ccw t.code h);
          kind = ap (λ (x : WalkPosition). kind_of x.orb) w;
          spot =
              subst (λ (rs : Sequence Reach). IsMovedTo orb rs (record t { walk = walk; moving = data_of walk t.code ccw; pci_pending = ccw.program_controlled }) ps) (sym reached)
              (joined-spot orb cs (data_areas orb before) t walk ps ccw (ap (λ (x : WalkPosition). x.orb) w) h (whole orb (data_areas orb before) t ps z s));
          number = ap count commanded ∙ joined-length cs ccw ∙ l;
          ends = en;
          checked = λ x. hc;
        }

    -- none is: the program stopped
    unjoined : (orb : Orb) (before acts : Sequence Act) (t : Transfer) (walk : WalkPosition) (ps : List (Option ℕ)) (check : Check) → walk ≡ walk_position orb acts → IsProgram orb acts →
        HasCode (commands orb before) t.code → t.moving.kind ≡ kind_of orb → count (commands orb before) ≡ earlier + t.command → IsMovedTo orb (data_areas orb before) t ps →
        commands orb acts ≡ commands orb before → data_areas orb acts ≡ data_areas orb before → next orb acts ≡ None → EndsAtCheck orb acts →
        Tied earlier orb acts ps (record t { walk = walk; fault = Some check })
    unjoined orb before acts t walk ps check w p h m l s f g n en = record {
      walk = w;
      program = p;
      stands = n;
      chained = λ x. absurd (cc x);
      coded = subst (λ (xs : Sequence Command). HasCode xs t.code) (sym f) h;
      kind = m;
      spot =
          subst (λ (rs : Sequence Reach). IsMovedTo orb rs (record t { walk = walk; fault = Some check }) ps) (sym g)
          (spot-changed orb (data_areas orb before) t (record t { walk = walk; fault = Some check }) ps refl (λ x. refl) s);
      number = ap count f ∙ l;
      ends = en;
      checked = λ x. absurd (cc x);
    }

    -- no block is next: nothing is done
    stays-tied : (orb : Orb) (before : Sequence Act) (t : Transfer) (ps : List (Option ℕ)) → next orb (before ▸ Used_up) ≡ None → Tied earlier orb before ps t →
        Tied earlier orb (before ▸ Used_up) ps t
    stays-tied orb before t ps n k = record {
      walk =
          k.walk ∙ ap (λ (x : Option ℕ). (let p : WalkPosition = record { orb = orb; role = role_of orb before; latest = latest orb before; next = x; tried = tried orb before } in p)) (k.stands ∙ sym n);
      program = (k.stands, k.program);
      stands = n;
      chained = k.chained;
      coded = k.coded;
      kind = k.kind;
      spot = k.spot;
      number = k.number;
      ends = k.ends;
      checked = k.checked;
    }

    chained-by : (storage : Contents) (orb : Orb) (before acts : Sequence Act) (t : Transfer) (walk : WalkPosition) (ps : List (Option ℕ)) (a : Option Advance) → walk ≡ walk_position orb acts →
        IsProgram orb acts → (role_of orb before).chained ≡ true → residual t.moving ≡ 0 → Tied earlier orb before ps t →
        Went (role_of orb before).chained (commands orb before) (commands orb acts) (data_areas orb before) (data_areas orb acts) (next orb acts) (role_of orb acts) a →
        ((x : Advance) → a ≡ Some x → Stands orb acts x) → (a ≡ None → Tied earlier orb acts ps t) → EndsAtCheck orb acts × UnlessStops a (has_check orb acts) →
        Tied earlier orb acts ps (with_next_ccw t walk a)
    chained-by storage orb before acts t walk ps (Some (advance.Takes ccw)) w p c z k g e o x =
        joins orb before acts t walk ps ccw w p c k.coded k.kind k.number k.spot z g.0 g.1 g.2 g.3 x.0 x.1
    chained-by storage orb before acts t walk ps (Some advance.Suspends) w p c z k g e o x =
        absurd (cc (sym (g.2 ∙ c) ∙ suspended-unchained orb acts (e advance.Suspends refl)))
    chained-by storage orb before acts t walk ps (Some (advance.Stops check)) w p c z k g e o x =
        unjoined orb before acts t walk ps check w p k.coded k.kind k.number k.spot g.0 g.1 (e (advance.Stops check) refl) x.0
    chained-by storage orb before acts t walk ps None w p c z k g e o x = o refl

    chained-tied : (storage : Contents) (orb : Orb) (acts : Sequence Act) (ps : List (Option ℕ)) (t : Transfer) → is_some t.fault ≡ false → t.moving.ccw.chain_data ≡ true →
        residual t.moving ≡ 0 → Tied earlier orb acts ps t → Tied earlier orb (acts ▸▸ chained_acts storage t) ps (data_chained storage t)
    chained-tied storage orb acts ps t f d z k =
        let used : Sequence Act = acts ▸ Used_up in
        let old : WalkPosition = walk_position orb used in
        let news : Sequence Act = advance_acts storage old in
        let by : Tied earlier orb (used ▸▸ news) ps (chained_from storage t old) =
        chained-by storage orb acts (used ▸▸ news) t (after_acts old news) ps (advance_of_acts old news) (laws.leads orb used news) (laws.goes storage orb used (k.stands, k.program)) (k.chained f ∙ d) z
        k
        (advance-went storage orb used)
        (λ x. acts-stand orb used news x (laws.leads orb used))
        (λ e.
        let n : next orb used ≡ None = none-next earlier laws storage orb used e in
        let none : news ≡ Nothing = ap (λ (x : Option ℕ). acts_from_next storage old x) n in
        subst (λ (xs : Sequence Act). Tied earlier orb (used ▸▸ xs) ps t) (sym none) (stays-tied orb acts t ps n k))
        (advance-ends storage orb used (k.checked f) k.ends) in
        subst (λ (w : WalkPosition). Tied earlier orb (acts ▸▸ (Nothing ▸ Used_up ▸▸ advance_acts storage (after_count_used_up w))) ps (chained_from storage t (after_count_used_up w))) (sym k.walk)
        (subst (λ (xs : Sequence Act). Tied earlier orb xs ps (chained_from storage t old)) (sym (joined-in-order acts (Nothing ▸ Used_up) news)) by)

    after_bytes_moved-by : (storage : Contents) (orb : Orb) (p : CommandTrace) (t : Transfer) (n : ℕ) (b : Bool) → chains_data (with_bytes_moved t n) n ≡ b → n ≤ t.moving.left →
        Tied earlier orb p.acts p.moved t →
        let q : CommandTrace = if b then with_acts (with_places p t.moving n) (chained_acts storage (with_bytes_moved t n)) else with_places p t.moving n in
        Tied earlier orb q.acts q.moved (if b then data_chained storage (with_bytes_moved t n) else with_bytes_moved t n)
    after_bytes_moved-by storage orb p t n true e l k =
        let m : Moving = movement.moved t.moving n in
        let a : (_ : not (n == 0) ≡ true) × (((residual m == 0) && (m.ccw.chain_data && is_none t.fault)) ≡ true) =
        and_parts (not (n == 0)) ((residual m == 0) && (m.ccw.chain_data && is_none t.fault)) e in
        let b : (_ : (residual m == 0) ≡ true) × ((m.ccw.chain_data && is_none t.fault) ≡ true) = and_parts (residual m == 0) (m.ccw.chain_data && is_none t.fault) a.1 in
        let c : (_ : m.ccw.chain_data ≡ true) × (is_none t.fault ≡ true) = and_parts m.ccw.chain_data (is_none t.fault) b.1 in
        chained-tied storage orb p.acts (p.moved ++ each_below (next_place t.moving) n) (with_bytes_moved t n) (none-some t.fault c.1) c.0 (eqb-true (residual m) 0 b.0)
        (with_bytes_moved-tied earlier laws orb p.acts p.moved t n l k)
    after_bytes_moved-by storage orb p t n false e l k = with_bytes_moved-tied earlier laws orb p.acts p.moved t n l k

    pub after_bytes_moved-tied : (storage : Contents) (orb : Orb) (p : CommandTrace) (t : Transfer) (n : ℕ) → n ≤ t.moving.left → Tied earlier orb p.acts p.moved t →
        Tied earlier orb (doing.trace_moved_on storage t n p).acts (doing.trace_moved_on storage t n p).moved (after_bytes_moved storage t n)
    after_bytes_moved-tied storage orb p t n l k = after_bytes_moved-by storage orb p t n (chains_data (with_bytes_moved t n) n) refl l k
