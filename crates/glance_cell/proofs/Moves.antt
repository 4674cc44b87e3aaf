-- Each step keeps the rule.
use Rattle.std.proofs.Common.{◌≡◌, ◌≢◌, ℕ, zero, suc, ◌+◌, ◌<◌, ◌≤◌, List, [], ◌∷◌, length, set, Bool, true, false, true≢false, refl, sym, ap, ◌∙◌, subst, ⊎_elim, arith}
use Rattle.std.specs.Prelude.{slice_index}
use mathlib.Core.Option.{some, some-ne-none, some-injective}
use mathlib.Core.Logic.{dite}
use native.Mathlib.Decide.{ℕ_discrete}
use lib.ListN.{get_elem?}
use Rattle.atomic_table.specs.Table.{State, Me, Step, keeps, Allows, Joins, Splits}
use Rattle.atomic_table.proofs.Lists.{at_set, set_here, set_else, set_again, at_longer, at_snoc}
use Rattle.glance_cell.specs.declared.words.View.{View}
use Rattle.glance_cell.specs.Rule.{IsKept, view, reader_view, taken_in, handed_out, SetsMade, SetsCleared, FindsMade, FindsCleared, SeesMade, SeesCleared}

within : (l : List View) (i : ℕ) (a : View) → get_elem? l i ≡ some a → i < length l
within [] i a e = absurd (some-ne-none a (sym e))
within (x ∷ xs) zero a e = omega arith
within (x ∷ xs) (suc i) a e = let h = within xs i a e in omega arith

off : false ≡ true → ⊥
off e = true≢false (sym e)

is_writer : (s : State ℕ View) (h : IsKept s) (id : ℕ) (v : View) → get_elem? s.views id ≡ some v → v.writes ≡ true → (id ≡ h.seat) × (v ≡ view true h.made h.cleared h.loads)
is_writer s h id v at writes =
    let same : id ≡ h.seat = dite (ℕ_discrete id h.seat) (λ e. e) (λ ne. absurd (off (sym (h.readers id v ne at).0 ∙ writes))) in
    (same, some-injective _ _ (sym at ∙ ap (get_elem? s.views) same ∙ h.writer))

is_reader : (s : State ℕ View) (h : IsKept s) (id : ℕ) (v : View) → get_elem? s.views id ≡ some v → v.writes ≡ false → id ≢ h.seat
is_reader s h id v at reads same =
    let e : v ≡ view true h.made h.cleared h.loads = some-injective _ _ (sym at ∙ ap (get_elem? s.views) same ∙ h.writer) in
    off (sym reads ∙ ap (λ (u : View). u.writes) e)

others : (views : List View) (id seat : ℕ) (w : View) (P : View → Type 0) → ((by : ℕ) (v : View) → by ≢ seat → get_elem? views by ≡ some v → P v) → (id ≢ seat → P w) → (by : ℕ) (v : View) → by ≢ seat → get_elem? (set views id w) by ≡ some v → P v
others views id seat w P was mine by v ne e =
    ⊎_elim
    (λ (x : (by ≡ id) × (w ≡ v)). subst P x.1 (mine (λ k. ne (x.0 ∙ k))))
    (λ (x : (by ≢ id) × (get_elem? views by ≡ some v)). was by v ne x.1)
    (at_set views id by w v e)

wrote : (s : State ℕ View) (h : IsKept s) (id : ℕ) (v : View) (b : Bool) (m c n : ℕ) (ws : List ℕ) → get_elem? s.views id ≡ some v → v.writes ≡ true → b ≡ true → v.made ≤ m → v.cleared ≤ c → c ≤ m → ws ≡ m ∷ c ∷ []
    → IsKept record { words = ws; homes = s.homes; views = set s.views id (view b m c n) }
wrote s h id v b m c n ws at writes on up up' le is =
    let me = is_writer s h id v at writes in
    let um : h.made ≤ m = omega (arith, up, ap (λ (u : View). u.made) me.1) in
    let uc : h.cleared ≤ c = omega (arith, up', ap (λ (u : View). u.cleared) me.1) in
    record {
      seat = id;
      made = m;
      cleared = c;
      loads = n;
      words = is;
      ordered = le;
      writer = set_here s.views id (view b m c n) (within s.views id v at) ∙ (λ i. some (view (on i) m c n));
      readers = others s.views id id (view b m c n) (λ u. (u.writes ≡ false) × (u.made ≤ m) × (u.cleared ≤ c))
          (λ by u ne e. let r = h.readers by u (λ k. ne (k ∙ sym me.0)) e in (r.0, omega (arith, r.1, um), omega (arith, r.2, uc)))
          (λ ne. absurd (ne refl));
    }

read : (s : State ℕ View) (h : IsKept s) (id : ℕ) (v w : View) (ws : List ℕ) → get_elem? s.views id ≡ some v → v.writes ≡ false → w.writes ≡ false → w.made ≤ h.made → w.cleared ≤ h.cleared → ws ≡ h.made ∷ h.cleared ∷ []
    → IsKept record { words = ws; homes = s.homes; views = set s.views id w }
read s h id v w ws at reads off' um uc is =
    let ne = is_reader s h id v at reads in
    record {
      seat = h.seat;
      made = h.made;
      cleared = h.cleared;
      loads = h.loads;
      words = is;
      ordered = h.ordered;
      writer = set_else s.views id h.seat w (λ k. ne (sym k)) ∙ h.writer;
      readers = others s.views id h.seat w (λ u. (u.writes ≡ false) × (u.made ≤ h.made) × (u.cleared ≤ h.cleared)) h.readers (λ _. (off', um, uc));
    }

pub stores_made : (slots id : ℕ) (me : Me ℕ View) (st : Step ℕ) (new : ℕ) → me.0.writes ≡ true → me.0.made ≤ new → me.0.cleared ≤ new → Allows IsKept slots id me 0 (λ _. new) (λ _. SetsMade st me new)
stores_made slots id me st new writes up le s h count at small =
    let is = is_writer s h id me.0 at writes in (
      view me.0.writes new me.0.cleared me.0.loads,
      keeps,
      tt,
      wrote s h id me.0 me.0.writes new me.0.cleared me.0.loads (set s.words 0 new) at writes writes up (omega arith) le
          (ap (λ l. set l 0 new) h.words ∙ ap (λ (c : ℕ). new ∷ c ∷ []) (sym (ap (λ (u : View). u.cleared) is.1))),
      refl,
    )

pub stores_cleared : (slots id : ℕ) (me : Me ℕ View) (st : Step ℕ) (new : ℕ) → me.0.writes ≡ true → me.0.cleared ≤ new → new ≤ me.0.made → Allows IsKept slots id me 1 (λ _. new) (λ _. SetsCleared st me new)
stores_cleared slots id me st new writes up le s h count at small =
    let is = is_writer s h id me.0 at writes in (
      view me.0.writes me.0.made new me.0.loads,
      keeps,
      tt,
      wrote s h id me.0 me.0.writes me.0.made new me.0.loads (set s.words 1 new) at writes writes (omega arith) up le
          (ap (λ l. set l 1 new) h.words ∙ ap (λ (m : ℕ). m ∷ new ∷ []) (sym (ap (λ (u : View). u.made) is.1))),
      refl,
    )

pub loads_made : (slots id : ℕ) (me : Me ℕ View) (st : Step ℕ) → me.0.writes ≡ false → Allows IsKept slots id me 0 (λ n. n) (FindsMade st me)
loads_made slots id me st reads s h count at small =
    let found : slice_index s.words 0 ≡ h.made = ap (λ l. slice_index l 0) h.words in
    let mine = h.readers id me.0 (is_reader s h id me.0 at reads) at in
    let order = h.ordered in (
      view me.0.writes (slice_index s.words 0) me.0.cleared (me.0.loads + 1),
      keeps,
      tt,
      read s h id me.0 (view me.0.writes (slice_index s.words 0) me.0.cleared (me.0.loads + 1)) (set s.words 0 (slice_index s.words 0)) at reads reads (omega (arith, found)) mine.2
          (ap (λ l. set l 0 (slice_index l 0)) h.words),
      (refl, omega (arith, found, mine.1), omega (arith, found, mine.2, order)),
    )

pub loads_cleared : (slots id : ℕ) (me : Me ℕ View) (st : Step ℕ) → me.0.writes ≡ false → Allows IsKept slots id me 1 (λ n. n) (FindsCleared st me)
loads_cleared slots id me st reads s h count at small =
    let found : slice_index s.words 1 ≡ h.cleared = ap (λ l. slice_index l 1) h.words in
    let mine = h.readers id me.0 (is_reader s h id me.0 at reads) at in (
      view me.0.writes me.0.made (slice_index s.words 1) me.0.loads,
      keeps,
      tt,
      read s h id me.0 (view me.0.writes me.0.made (slice_index s.words 1) me.0.loads) (set s.words 1 (slice_index s.words 1)) at reads reads mine.1 (omega (arith, found))
          (ap (λ l. set l 1 (slice_index l 1)) h.words),
      (refl, omega (arith, found, mine.2)),
    )

-- a view that has what the writer's has, but for the loads
counted : (s : State ℕ View) (h : IsKept s) (id : ℕ) (v : View) (n : ℕ) (ws : List ℕ) → get_elem? s.views id ≡ some v → v.writes ≡ true → ws ≡ h.made ∷ h.cleared ∷ []
    → IsKept record { words = ws; homes = s.homes; views = set s.views id (view v.writes v.made v.cleared n) }
counted s h id v n ws at writes is =
    let me = is_writer s h id v at writes in
    let order = h.ordered in
    let um : v.made ≡ h.made = ap (λ (u : View). u.made) me.1 in
    let uc : v.cleared ≡ h.cleared = ap (λ (u : View). u.cleared) me.1 in
    wrote s h id v v.writes v.made v.cleared n ws at writes writes (omega arith) (omega arith) (omega (arith, um, uc, order)) (is ∙ (λ k. sym um k ∷ sym uc k ∷ []))

pub sees_made : (slots id : ℕ) (me : Me ℕ View) (st : Step ℕ) → me.0.writes ≡ true → Allows IsKept slots id me 0 (λ n. n) (SeesMade st me)
sees_made slots id me st writes s h count at small =
    let is = is_writer s h id me.0 at writes in (
      view me.0.writes me.0.made me.0.cleared (me.0.loads + 1),
      keeps,
      tt,
      counted s h id me.0 (me.0.loads + 1) (set s.words 0 (slice_index s.words 0)) at writes (ap (λ l. set l 0 (slice_index l 0)) h.words),
      (refl, ap (λ l. slice_index l 0) h.words ∙ sym (ap (λ (u : View). u.made) is.1)),
    )

pub sees_cleared : (slots id : ℕ) (me : Me ℕ View) (st : Step ℕ) → me.0.writes ≡ true → Allows IsKept slots id me 1 (λ n. n) (SeesCleared st me)
sees_cleared slots id me st writes s h count at small =
    let is = is_writer s h id me.0 at writes in (
      me.0,
      keeps,
      tt,
      counted s h id me.0 me.0.loads (set s.words 1 (slice_index s.words 1)) at writes (ap (λ l. set l 1 (slice_index l 1)) h.words),
      (refl, ap (λ l. slice_index l 1) h.words ∙ sym (ap (λ (u : View). u.cleared) is.1)),
    )

pub takes_in : (id : ℕ) (v : View) (other : ℕ) (w : View) → v.writes ≡ true → w.writes ≡ false → Joins IsKept id v other w (taken_in v w) (reader_view 0 0)
takes_in id v other w writes reads s h at ne there =
    let t : State ℕ View = record { words = s.words; homes = s.homes; views = set s.views id (taken_in v w) } in
    let kept : IsKept t = counted s h id v w.loads s.words at writes h.words in
    read t kept other w (reader_view 0 0) s.words there reads refl (omega arith) (omega arith) kept.words

-- one more view at the end, which is a reader's and is part by part at most the writer's
longer : (id : ℕ) (v w : View) → v.writes ≡ true → w.writes ≡ false → w.made ≡ v.made → w.cleared ≡ v.cleared → Splits IsKept id v v w
longer id v w writes reads same_made same_cleared s h at =
    let is = is_writer s h id v at writes in
    let same = set_again s.views id v at in
    record {
      seat = h.seat;
      made = h.made;
      cleared = h.cleared;
      loads = h.loads;
      words = h.words;
      ordered = h.ordered;
      writer = at_longer (set s.views id v) (w ∷ []) h.seat _ (ap (λ l. get_elem? l h.seat) same ∙ h.writer);
      readers = λ by u ne e. ⊎_elim
          (λ (was : get_elem? (set s.views id v) by ≡ some u). h.readers by u ne (sym (ap (λ l. get_elem? l by) same) ∙ was))
          (λ (new : w ≡ u). subst (λ (x : View). (x.writes ≡ false) × (x.made ≤ h.made) × (x.cleared ≤ h.cleared)) new
          (reads, omega (arith, same_made, ap (λ (x : View). x.made) is.1), omega (arith, same_cleared, ap (λ (x : View). x.cleared) is.1)))
          (at_snoc (set s.views id v) w u by e);
    }

pub watches : (id : ℕ) (v : View) → v.writes ≡ true → Splits IsKept id v v (reader_view v.made v.cleared)
watches id v writes = longer id v (reader_view v.made v.cleared) writes refl refl refl

pub hands_out : (id : ℕ) (v : View) → v.writes ≡ true → Splits IsKept id v v (handed_out v)
hands_out id v writes = longer id v (handed_out v) writes refl refl refl
