-- What a Data leaves of a transfer is what is seen of it: its numbers, what is given next, and why a check is kept.
use Rattle.std.proofs.Common.{◌≡◌, refl, sym, ◌∙◌, ap, subst, ℕ, ◌+◌, ◌≤◌, ◌==◌, Bool, true, false, List, [], ◌∷◌, length, take, Option, Some, None, Result, Ok, Err, inl, inr, min, ◌++◌}
use Rattle.std.proofs.lemmas.Bool.{eqb-true}
use Rattle.std.specs.Prelude.{◌||◌, ◌&&◌, ◌⊎◌, nat_lt, if◌then◌else◌, is_some}
use Rattle.orb_block.specs.declared.Orb.{Orb}
use Rattle.storage_keys.specs.Storage.{Contents}
use Rattle.ccw_walk.specs.declared.check.Check.{Check}
use Rattle.ccw_walk.specs.Sequences.{Sequence}
use Rattle.ccw_walk.specs.Acts.{Act}
use Rattle.ccw_walk.specs.Positions.{WalkPosition, after_acts, after_count_used_up}
use Rattle.ccw_walk.specs.Advancing.{advance_acts, advance_of_acts}
use Rattle.ccw_walk.specs.declared.program.Advance.{Advance}
use Rattle.ccw_walk.specs.declared.program.Advance.TheVariants as advance
use Rattle.data_move.specs.Accesses as access
use Rattle.data_move.specs.Moving.{Moving, room}
use Rattle.data_move.specs.declared.transfer.NextChunk.{NextChunk}
use Rattle.data_move.specs.declared.transfer.Transfer.{Transfer}
use Rattle.data_move.specs.Commands.{with_located, located_transfer, with_room, has_stopped}
use Rattle.data_move.specs.FromDevice.{StoredChunk, fitting_bytes, after_store, bytes_brought_in, chunk_stored}
use Rattle.data_move.specs.DataChaining.{with_bytes_moved, chains_data, with_next_ccw, data_chained, after_bytes_moved}
use Rattle.data_move.specs.ToDevice.{with_chunk_counted, chunk_absorbed, with_bytes_offered, next_chunk, with_bytes_fetched}
use Rattle.run_laws.specs.Traces.{CommandTrace}
use Rattle.run_laws.specs.ProgramClaims.{has_check}
use Rattle.run_laws.specs.DataAreas.{data_areas}
use Rattle.run_laws.specs.Tells.{Gives, room_in, absorbed_of, given_of, Stores, GivesNext, TakesNext}
use Rattle.run_laws.specs.Reached.{is_short, skips, CantReach, CantStore, CantFetch}
use Rattle.run_laws.proofs.Traces.MachineActs.{with_acts, located_acts, chunk_of, trace_moved_on, trace_answered, gives, with_arrival, storing, arriving, takes_in}
use Rattle.run_laws.proofs.Bytes.Accesses.{AreAccesses}
use Rattle.run_laws.proofs.Traces.Ties.{AreLaws, Tied, changed}
use Rattle.run_laws.proofs.Traces.Parts.{IsAtWork, after_bytes_moved-through, located-through, room-left, fitting-left, answer-tied, answer-by, bring-by, gives-work, takes_in-work, located-work}
use Rattle.run_laws.proofs.Traces.Holds.{IsMarked}
use Rattle.run_laws.proofs.Bytes.Kept.{room-same, skips-same, short-same, located-kept, located-checks, after_bytes_moved-kept, copy-kept, fault-stays}
use Rattle.run_laws.proofs.Traces.Fetches.{copy-same}
use Rattle.run_laws.proofs.Bytes.Moves.{given_by, gives-told, cant-by, brought-told}

-- the flags of a transfer, and the number of its last chunk, as bytes are moved
abbrev SameFlags : Transfer → Transfer → Type 0
SameFlags t u = (u.sequence ≡ t.sequence) × (u.offered ≡ t.offered) × (u.stopped ≡ t.stopped) × (u.ended ≡ t.ended) × (u.unchained ≡ t.unchained)

with_next_ccw-flags : (t : Transfer) (walk : WalkPosition) (a : Option Advance) → SameFlags t (with_next_ccw t walk a)
with_next_ccw-flags t walk (Some (advance.Takes ccw)) = (refl, refl, refl, refl, refl)
with_next_ccw-flags t walk other = (refl, refl, refl, refl, refl)

after_bytes_moved-flags : (storage : Contents) (t : Transfer) (n : ℕ) (b : Bool) → SameFlags t (if b then data_chained storage (with_bytes_moved t n) else with_bytes_moved t n)
after_bytes_moved-flags storage t n true =
    let old : WalkPosition = after_count_used_up t.walk in with_next_ccw-flags (with_bytes_moved t n) (after_acts old (advance_acts storage old)) (advance_of_acts old (advance_acts storage old))
after_bytes_moved-flags storage t n false = (refl, refl, refl, refl, refl)

located-flags : (t : Transfer) (r : Result Moving Check) (b : Bool) → SameFlags t (if b then t else with_located t r)
located-flags t r true = (refl, refl, refl, refl, refl)
located-flags t (Ok m) false = (refl, refl, refl, refl, refl)
located-flags t (Err check) false = (refl, refl, refl, refl, refl)

located-same-flags : (storage : Contents) (t : Transfer) → SameFlags t (located_transfer storage t)
located-same-flags storage t = located-flags t (access.located storage t.walk.orb.key t.moving) (is_some t.fault)

-- a Data is of the last chunk or the next: then its number is that of the last
number-is : (s n : ℕ) (b : Bool) → (s == n + 1) ≡ b → ((s == n) || (s == n + 1)) ≡ true → (if b then s else n) ≡ s
number-is s n true e a = refl
number-is s n false e a = sym (eqb-true s n (either (s == n) (s == n + 1) e a))
  where
    either : (x y : Bool) → y ≡ false → (x || y) ≡ true → x ≡ true
    either true y e a = refl
    either false y e a = absurd (cc (sym e ∙ a))

or-none : (x : Bool) → (x || false) ≡ x
or-none true = refl
or-none false = refl

-- of a write: what the device absorbed, and what is given
record IsAnswered_so (t u : Transfer) (s count : ℕ) (b : Bool) : Type 0 where
  sequence : u.sequence ≡ (if b then s else t.sequence)
  offered : u.offered ≡ t.offered
  stopped : u.stopped ≡ (t.stopped || (b && nat_lt count t.offered))
  ended : u.ended ≡ t.ended
  unchained : u.unchained ≡ t.unchained

answered-so : (storage : Contents) (t : Transfer) (s count : ℕ) (b : Bool) →
    IsAnswered_so t (if b then after_bytes_moved storage (with_chunk_counted t s count) (min count (room t.moving)) else t) s count b
answered-so storage t s count true =
    let u : Transfer = with_chunk_counted t s count in
    let n : ℕ = min count (room t.moving) in
    let f : SameFlags u (after_bytes_moved storage u n) = after_bytes_moved-flags storage u n (chains_data (with_bytes_moved u n) n) in
    record { sequence = f.0; offered = f.1; stopped = f.2; ended = f.3; unchained = f.4 }
answered-so storage t s count false = record { sequence = refl; offered = refl; stopped = sym (or-none t.stopped); ended = refl; unchained = refl }

abbrev GivenFlags : Transfer → NextChunk → Type 0
GivenFlags t x =
    (x.transfer.sequence ≡ t.sequence) × (x.transfer.offered ≡ length x.bytes) × (x.transfer.stopped ≡ t.stopped) × (x.transfer.ended ≡ t.ended) × (x.transfer.unchained ≡ t.unchained)
    × (x.transfer.fault ≡ None → t.fault ≡ None)

given-flags : (t : Transfer) (r : Result (List ℕ) Check) (b : Bool) → GivenFlags t (if b then with_bytes_offered t [] else with_bytes_fetched t r)
given-flags t r true = (refl, refl, refl, refl, refl, λ e. e)
given-flags t (Ok bytes) false = (refl, refl, refl, refl, refl, λ e. e)
given-flags t (Err check) false = (refl, refl, refl, refl, refl, λ e. absurd (cc e))

answered-through : (storage : Contents) (t : Transfer) (s count : ℕ) (b : Bool) →
    (if b then after_bytes_moved storage (with_chunk_counted t s count) (min count (room t.moving)) else t).fault ≡ None → t.fault ≡ None
answered-through storage t s count true e =
    let u : Transfer = with_chunk_counted t s count in
    let n : ℕ = min count (room t.moving) in
    (after_bytes_moved-through storage u n (chains_data (with_bytes_moved u n) n)).1 e
answered-through storage t s count false e = e

located-none : (storage : Contents) (t : Transfer) → (located_transfer storage t).fault ≡ None → t.fault ≡ None
located-none storage t e = (located-through t (access.located storage t.walk.orb.key t.moving) (is_some t.fault)).1 e

none-is : (o : Option Check) → is_some o ≡ false → o ≡ None
none-is None e = refl
none-is (Some x) e = absurd (cc e)

is-none : (o : Option Check) → o ≡ None → is_some o ≡ false
is-none o e = ap (λ (x : Option Check). is_some x) e

module _ (laws : AreLaws) (accesses : AreAccesses) (earlier : ℕ) where
  answered-kept : (storage : Contents) (orb : Orb) (p : CommandTrace) (t : Transfer) (s count : ℕ) (b : Bool) → IsAtWork earlier orb p t true →
      is_some (if b then after_bytes_moved storage (with_chunk_counted t s count) (min count (room t.moving)) else t).fault ≡ true →
      (is_some t.fault ≡ true) ⊎ (has_check orb (if b then trace_moved_on storage (with_chunk_counted t s count) (min count (room t.moving)) p else p).acts ≡ true)
  answered-kept storage orb p t s count true k e =
      after_bytes_moved-kept earlier laws storage orb p (with_chunk_counted t s count) (min count (room t.moving)) (room-left t count) (answer-tied earlier laws orb p t s count k).tied e
  answered-kept storage orb p t s count false k e = inl e

  -- of a write
  pub gives-next : (storage : Contents) (orb : Orb) (p : CommandTrace) (t : Transfer) (s count : ℕ) → IsAtWork earlier orb p t true → IsMarked p t → ((s == t.sequence) || (s == t.sequence + 1)) ≡ true →
      GivesNext storage orb s count (next_chunk storage (chunk_absorbed storage t s count)).bytes p (gives storage t s count p)
  gives-next storage orb p t s count k marks at =
      let a : Transfer = chunk_absorbed storage t s count in
      let q : CommandTrace = trace_answered storage t s count p in
      let u : Transfer = located_transfer storage a in
      let r : CommandTrace = with_acts q (located_acts storage a) in
      let given : NextChunk = next_chunk storage a in
      let v : Transfer = given.transfer in
      let now : CommandTrace = gives storage t s count p in
      let next : Bool = s == t.sequence + 1 in
      let wa : IsAtWork earlier orb q a true = answer-by earlier laws storage orb p t s count next k in
      let wu : IsAtWork earlier orb r u true = located-work earlier laws storage orb q a true wa in
      let w : IsAtWork earlier orb now v true = gives-work earlier laws storage orb p t s count k in
      let fa = answered-so storage t s count next in
      let fu : SameFlags a u = located-same-flags storage a in
      let fv : GivenFlags u given = given-flags u (access.copied storage u.walk.orb.key u.moving) (has_stopped u) in
      let same = copy-same storage u r in
      let located = located-kept earlier storage orb q.acts q.moved a wa.tied in
      let number : (if s == t.sequence + 1 then min count (room t.moving) else 0) ≡ absorbed_of orb p s count =
      ap (λ (n : ℕ). if s == n + 1 then min count (room t.moving) else 0) (sym marks.0)
      ∙ ap (λ (n : ℕ). if s == p.sequence + 1 then min count n else 0) (room-same earlier orb p.acts p.moved t k.tied) in
      let many : given_by v ≡ given_of orb now =
      ap (λ (b : Bool). if has_stopped v || b then 0 else room v.moving) (skips-same earlier orb now.acts now.moved v w.tied)
      ∙ ap (λ (n : ℕ). if has_stopped v || skips (data_areas orb now.acts) then 0 else n) (room-same earlier orb now.acts now.moved v w.tied) in
      let X : Sequence Act → List (Option ℕ) → Type 0 = λ acts moved.
      (has_check orb acts ≡ true) ⊎ (CantReach storage orb acts moved ⊎ CantFetch storage orb acts moved) in
      record {
        gives = subst (λ (n : ℕ). Gives storage orb n (given_of orb now) given.bytes p now) number
            (subst (λ (n : ℕ). Gives storage orb (if s == t.sequence + 1 then min count (room t.moving) else 0) n given.bytes p now) many (gives-told earlier laws accesses storage orb p t s count k));
        keeps = record {
          stays = λ e. fault-stays t.fault v.fault (λ n. answered-through storage t s count next (located-none storage a (fv.5 n))) (sym marks.3 ∙ e);
          because = λ e.
              elim (copy-kept earlier laws storage orb r.acts r.moved u (has_stopped u) (access.copied storage u.walk.orb.key u.moving) refl wu.tied e) [
                | inr x ↦ inr (subst (λ (xs : List (Option ℕ)). X now.acts xs) (sym same.1) (subst (λ (xs : Sequence Act). X xs r.moved) (sym same.0) (inr (inr x))))
                | inl x ↦ elim (located.0 x) [
                  | inr y ↦ inr (subst (λ (xs : List (Option ℕ)). X now.acts xs) (sym same.1) (subst (λ (xs : Sequence Act). X xs r.moved) (sym same.0) (inr (inl y))))
                  | inl y ↦ elim (answered-kept storage orb p t s count next k y) [
                    | inl z ↦ inl (marks.3 ∙ z)
                    | inr z ↦ inr (inl (ap (has_check orb) same.0 ∙ located-checks earlier storage orb q.acts a ∙ z))
                  ]
                ]
              ];
          without = λ e. (
            w.tied.checked e,
            ap (λ (xs : Sequence Act). is_short orb xs now.moved) same.0 ∙ ap (λ (xs : List (Option ℕ)). is_short orb r.acts xs) same.1
                ∙ short-same earlier orb r.acts r.moved u wu.tied ∙ located.1 (is-none u.fault (fv.5 (none-is v.fault e))),
          );
        };
        sequence = fv.0 ∙ fu.0 ∙ fa.sequence ∙ number-is s t.sequence next refl at;
        given = fv.1;
        stopped = fv.2 ∙ fu.2 ∙ fa.stopped ∙ ap (λ (b : Bool). b || (next && nat_lt count t.offered)) (sym marks.2)
            ∙ ap (λ (n : ℕ). p.stopped || ((s == n + 1) && nat_lt count t.offered)) (sym marks.0)
            ∙ ap (λ (n : ℕ). p.stopped || ((s == p.sequence + 1) && nat_lt count n)) (sym marks.1);
      }

  -- of a read
  brought-so : (storage : Contents) (t : Transfer) (s : ℕ) (bytes : List ℕ) (b c : Bool) (r : Result Contents Check) →
      let x : StoredChunk = if b then (if c then record { transfer = record t { sequence = s }; storage = storage } else after_store storage (record t { sequence = s }) (length bytes) r)
      else record { transfer = t; storage = storage } in
      (_ : x.transfer.sequence ≡ (if b then s else t.sequence)) × (x.transfer.offered ≡ t.offered) × (x.transfer.stopped ≡ t.stopped) × (x.transfer.ended ≡ t.ended)
      × (x.transfer.unchained ≡ t.unchained) × (x.transfer.fault ≡ None → t.fault ≡ None)
  brought-so storage t s bytes false c r = (refl, refl, refl, refl, refl, λ e. e)
  brought-so storage t s bytes true true r = (refl, refl, refl, refl, refl, λ e. e)
  brought-so storage t s bytes true false (Ok after) =
      let u : Transfer = record t { sequence = s } in
      let n : ℕ = length bytes in
      let f : SameFlags u (after_bytes_moved after u n) = after_bytes_moved-flags after u n (chains_data (with_bytes_moved u n) n) in
      (f.0, f.1, f.2, f.3, f.4, λ e. (after_bytes_moved-through after u n (chains_data (with_bytes_moved u n) n)).1 e)
  brought-so storage t s bytes true false (Err check) = (refl, refl, refl, refl, refl, λ e. absurd (cc e))

  abbrev BroughtWhy : Contents → Orb → CommandTrace → Transfer → List ℕ → StoredChunk → CommandTrace → Type 0
  BroughtWhy storage orb p t bytes x q = is_some x.transfer.fault ≡ true → (is_some t.fault ≡ true) ⊎ ((has_check orb q.acts ≡ true) ⊎ CantStore storage orb p.acts p.moved bytes)

  arrival-kept : (storage : Contents) (orb : Orb) (p : CommandTrace) (t : Transfer) (bytes : List ℕ) (r : Result Contents Check) → access.stored_or_skipped storage t.walk.orb.key t.moving bytes ≡ r →
      length bytes ≤ t.moving.left → Tied earlier orb p.acts p.moved t → BroughtWhy storage orb p t bytes (after_store storage t (length bytes) r) (with_arrival storage t bytes r p)
  arrival-kept storage orb p t bytes (Ok after) e l k f =
      let q : CommandTrace = record p { arrived = p.arrived ++ record { former = storage.bytes; chunk = chunk_of after t.moving bytes } ∷ [] } in
      elim (after_bytes_moved-kept earlier laws after orb q t (length bytes) l k f) [ inl x ↦ inl x | inr x ↦ inr (inl x) ]
  arrival-kept storage orb p t bytes (Err check) e l k f = inr (inr (cant-by earlier laws accesses storage orb p t bytes check t.moving.skipped refl e l k))

  store-kept : (storage : Contents) (orb : Orb) (p : CommandTrace) (t : Transfer) (bytes : List ℕ) (b : Bool) → is_some t.fault ≡ b → length bytes ≤ t.moving.left → Tied earlier orb p.acts p.moved t →
      BroughtWhy storage orb p t bytes
      (if b then record { transfer = t; storage = storage } else after_store storage t (length bytes) (access.stored_or_skipped storage t.walk.orb.key t.moving bytes))
      (if b then p else with_arrival storage t bytes (access.stored_or_skipped storage t.walk.orb.key t.moving bytes) p)
  store-kept storage orb p t bytes true g l k f = inl f
  store-kept storage orb p t bytes false g l k f = arrival-kept storage orb p t bytes (access.stored_or_skipped storage t.walk.orb.key t.moving bytes) refl l k f

  bring-kept : (storage : Contents) (orb : Orb) (p : CommandTrace) (t : Transfer) (s : ℕ) (bytes : List ℕ) (b : Bool) → Tied earlier orb p.acts p.moved t →
      BroughtWhy storage orb p t (fitting_bytes t bytes)
      (if b then bytes_brought_in storage (record t { sequence = s }) (fitting_bytes t bytes) else record { transfer = t; storage = storage })
      (if b then storing storage (record t { sequence = s }) (fitting_bytes t bytes) p else p)
  bring-kept storage orb p t s bytes true k f =
      let u : Transfer = record t { sequence = s } in
      store-kept storage orb p u (fitting_bytes t bytes) (is_some t.fault) refl (fitting-left t bytes) (changed earlier orb p.acts p.moved t u refl refl refl refl (λ e. e) (λ e. e) k) f
  bring-kept storage orb p t s bytes false k f = inl f

  pub takes-next : (storage : Contents) (orb : Orb) (p : CommandTrace) (t : Transfer) (s : ℕ) (bytes : List ℕ) → IsAtWork earlier orb p t false → IsMarked p t →
      ((s == t.sequence) || (s == t.sequence + 1)) ≡ true →
      let x : StoredChunk = chunk_stored storage t s bytes in
      TakesNext storage x.storage orb s bytes (with_room x.storage x.transfer).room p (takes_in storage t s bytes p)
  takes-next storage orb p t s bytes k marks at =
      let x : StoredChunk = chunk_stored storage t s bytes in
      let q : CommandTrace = arriving storage t s bytes p in
      let u : Transfer = located_transfer x.storage x.transfer in
      let now : CommandTrace = takes_in storage t s bytes p in
      let next : Bool = s == t.sequence + 1 in
      let wx : IsAtWork earlier orb q x.transfer false = bring-by earlier laws accesses storage orb p t s bytes next refl k in
      let w : IsAtWork earlier orb now u false = takes_in-work earlier laws accesses storage orb p t s bytes k in
      let fx = brought-so storage t s (fitting_bytes t bytes) next (is_some t.fault) (access.stored_or_skipped storage t.walk.orb.key t.moving (fitting_bytes t bytes)) in
      let fu : SameFlags x.transfer u = located-same-flags x.storage x.transfer in
      let located = located-kept earlier x.storage orb q.acts q.moved x.transfer wx.tied in
      let told = brought-told earlier laws accesses storage orb t s bytes p next refl k in
      let fits : room t.moving ≡ room_in orb p = room-same earlier orb p.acts p.moved t k.tied in
      record {
        stores = subst (λ (b : Bool). Stores storage x.storage orb (room_in orb p) b s bytes p now) (sym marks.3)
            (subst (λ (n : ℕ). Stores storage x.storage orb n (is_some t.fault) s bytes p now) fits told.0);
        copied = told.1;
        keeps = record {
          stays = λ e. fault-stays t.fault u.fault (λ n. fx.5 (located-none x.storage x.transfer n)) (sym marks.3 ∙ e);
          because = λ e.
              elim (located.0 e) [
                | inr y ↦ inr (inr (inl y))
                | inl y ↦ elim (bring-kept storage orb p t s bytes next k.tied y) [
                  | inl z ↦ inl (marks.3 ∙ z)
                  | inr (inl z) ↦ inr (inl (located-checks earlier x.storage orb q.acts x.transfer ∙ z))
                  | inr (inr z) ↦ inr (inr (inr (subst (λ (n : ℕ). CantStore storage orb p.acts p.moved (take n bytes)) fits z)))
                ]
              ];
          without = λ e. (w.tied.checked e, short-same earlier orb now.acts now.moved u w.tied ∙ located.1 e);
        };
        more_room = ap (λ (n : ℕ). if has_stopped u then 0 else n) (room-same earlier orb now.acts now.moved u w.tied);
        sequence = fu.0 ∙ fx.0 ∙ number-is s t.sequence next refl at;
        given = fu.1 ∙ fx.1 ∙ sym marks.1;
        stopped = fu.2 ∙ fx.2 ∙ sym marks.2;
      }

  pub gives-flags : (storage : Contents) (p : CommandTrace) (t : Transfer) (s count : ℕ) → IsMarked p t →
      (_ : (gives storage t s count p).ended ≡ p.ended) × ((gives storage t s count p).unchained ≡ p.unchained)
  gives-flags storage p t s count marks =
      let a : Transfer = chunk_absorbed storage t s count in
      let u : Transfer = located_transfer storage a in
      let fa = answered-so storage t s count (s == t.sequence + 1) in
      let fu : SameFlags a u = located-same-flags storage a in
      let fv = given-flags u (access.copied storage u.walk.orb.key u.moving) (has_stopped u) in
      (fv.3 ∙ fu.3 ∙ fa.ended ∙ sym marks.4, fv.4 ∙ fu.4 ∙ fa.unchained ∙ sym marks.5)

  pub takes-flags : (storage : Contents) (p : CommandTrace) (t : Transfer) (s : ℕ) (bytes : List ℕ) → IsMarked p t →
      (_ : (takes_in storage t s bytes p).ended ≡ p.ended) × ((takes_in storage t s bytes p).unchained ≡ p.unchained)
  takes-flags storage p t s bytes marks =
      let x : StoredChunk = chunk_stored storage t s bytes in
      let fx = brought-so storage t s (fitting_bytes t bytes) (s == t.sequence + 1) (is_some t.fault) (access.stored_or_skipped storage t.walk.orb.key t.moving (fitting_bytes t bytes)) in
      let fu : SameFlags x.transfer (located_transfer x.storage x.transfer) = located-same-flags x.storage x.transfer in
      (fu.3 ∙ fx.3 ∙ sym marks.4, fu.4 ∙ fx.4 ∙ sym marks.5)
