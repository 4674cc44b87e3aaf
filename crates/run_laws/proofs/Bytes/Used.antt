-- Data is chained exactly where the counts so far are used up.
use Rattle.std.proofs.Common.{◌≡◌, refl, sym, ◌∙◌, ap, subst, arith, ℕ, zero, suc, ◌+◌, ◌≤◌, ◌<◌, ◌==◌, Bool, true, false, List, ◌++◌, length, Option, Some, None, length-append}
use Rattle.std.specs.Prelude.{if◌then◌else◌, is_some, is_none, not, ◌&&◌, nat_lt}
use Rattle.std.proofs.lemmas.Bool.{eqb-true, eqb-false, eq-eqb, ne_eqb, ltb-true, lt-ltb}
use Rattle.orb_block.specs.declared.Orb.{Orb}
use Rattle.ccw_codec.specs.declared.Ccw.{Ccw}
use Rattle.ccw_walk.specs.declared.program.Latest.{Latest}
use Rattle.ccw_walk.specs.Programs.{latest, next_used_up}
use Rattle.idaw.specs.Places.{each_below}
use Rattle.data_move.specs.Moving.{next_place, residual}
use Rattle.data_move.specs.declared.transfer.Transfer.{Transfer}
use Rattle.data_move.specs.DataChaining.{chains_data, with_bytes_moved}
use Rattle.run_laws.specs.DataAreas.{data_areas, counts}
use Rattle.run_laws.specs.Traces.{CommandTrace}
use Rattle.run_laws.specs.Tells.{is_used_up}
use Rattle.run_laws.proofs.Bytes.Lists.{length-each_below}
use Rattle.run_laws.proofs.Traces.Ties.{AreLaws, Tied, spot-counts, with_bytes_moved-tied}
use Rattle.run_laws.proofs.Traces.Latest.{IsLatest, latest-of}

not-below : (a b : ℕ) → (a < b → ⊥) → nat_lt a b ≡ false
not-below a b f = by (nat_lt a b) refl
  where
    by : (x : Bool) → nat_lt a b ≡ x → x ≡ false
    by true e = absurd (f (ltb-true a b e))
    by false e = refl

more-below : (m n : ℕ) (b : Bool) → (n == 0) ≡ b → nat_lt m (m + n) ≡ not b
more-below m n true e = let z : n ≡ 0 = eqb-true n 0 e in not-below m (m + n) (λ l. absurd (omega (arith, z, l)))
more-below m n false e = lt-ltb m (m + n) (positive n (eqb-false n 0 e))
  where
    positive : (n : ℕ) → (n ≡ 0 → ⊥) → m < m + n
    positive zero f = absurd (f refl)
    positive (suc n) f = omega arith

pub rest-none : (a b r : ℕ) (x : Bool) → a ≡ b + r → (r == 0) ≡ x → (b == a) ≡ x
rest-none a b r true e f = let z : r ≡ 0 = eqb-true r 0 f in eq-eqb b a (omega (arith, e, z))
rest-none a b r false e f = ne_eqb b a (λ same. eqb-false r 0 f (let z : r ≡ 0 = omega (arith, e, same) in z))

-- by the latest block another is next where it chains data
used-next : (last : Option Latest) (ccw : Ccw) → IsLatest last ccw → is_some (next_used_up last) ≡ ccw.chain_data
used-next None ccw l = absurd l
used-next (Some last) ccw l = subst (λ (x : Ccw). is_some (next_used_up (Some last)) ≡ x.chain_data) l (by last.ccw.chain_data)
  where
    by : (b : Bool) → is_some (if b then Some (last.address + 8) else None) ≡ b
    by true = refl
    by false = refl

not-some : {A : Type 0} (o : Option A) → not (is_some o) ≡ is_none o
not-some None = refl
not-some (Some x) = refl

all-same : (a b c d e f g h : Bool) → a ≡ e → b ≡ f → c ≡ g → d ≡ h → (a && (b && (c && d))) ≡ (e && (f && (g && h)))
all-same a b c d e f g h i j k l =
    ap (λ (x : Bool). x && (b && (c && d))) i ∙ ap (λ (x : Bool). e && (x && (c && d))) j ∙ ap (λ (x : Bool). e && (f && (x && d))) k ∙ ap (λ (x : Bool). e && (f && (g && x))) l

module _ (laws : AreLaws) (earlier : ℕ) where
  pub used-same : (orb : Orb) (p q : CommandTrace) (t : Transfer) (n : ℕ) → n ≤ t.moving.left → Tied earlier orb p.acts p.moved t →
      q.moved ≡ p.moved ++ each_below (next_place t.moving) n → is_used_up orb (is_some t.fault) p q ≡ chains_data (with_bytes_moved t n) n
  used-same orb p q t n l k e =
      let m : ℕ = length p.moved in
      let ps = p.moved ++ each_below (next_place t.moving) n in
      let many : length ps ≡ m + n =
      length-append p.moved (each_below (next_place t.moving) n) ∙ ap (λ (x : ℕ). m + x) (length-each_below (next_place t.moving) n) in
      let long : length q.moved ≡ m + n = ap length e ∙ many in
      let u : Transfer = with_bytes_moved t n in
      let tied : Tied earlier orb p.acts ps u = with_bytes_moved-tied earlier laws orb p.acts p.moved t n l k in
      let all : counts (data_areas orb p.acts) ≡ length ps + residual u.moving = spot-counts orb (data_areas orb p.acts) u ps tied.spot in
      let whole : counts (data_areas orb p.acts) ≡ length q.moved + residual u.moving = all ∙ ap (λ (x : ℕ). x + residual u.moving) (many ∙ sym long) in
      all-same (nat_lt m (length q.moved)) (length q.moved == counts (data_areas orb p.acts)) (is_some (next_used_up (latest orb p.acts))) (not (is_some t.fault))
      (not (n == 0)) (residual u.moving == 0) t.moving.ccw.chain_data (is_none t.fault)
      (ap (λ (x : ℕ). nat_lt m x) long ∙ more-below m n (n == 0) refl)
      (rest-none (counts (data_areas orb p.acts)) (length q.moved) (residual u.moving) (residual u.moving == 0) whole refl)
      (used-next (latest orb p.acts) t.moving.ccw (latest-of earlier orb p.acts p.moved t k))
      (not-some t.fault)

-- where nothing moved none is
pub none-used : (orb : Orb) (kept : Bool) (p q : CommandTrace) → q.moved ≡ p.moved → is_used_up orb kept p q ≡ false
none-used orb kept p q e =
    ap (λ (x : Bool). x && ((length q.moved == counts (data_areas orb p.acts)) && (is_some (next_used_up (latest orb p.acts)) && not kept)))
    (ap (λ (xs : List (Option ℕ)). nat_lt (length p.moved) (length xs)) e ∙ not-below (length p.moved) (length p.moved) (λ l. absurd (omega (arith, l))))

-- it depends on the places alone
pub used-by : (orb : Orb) (kept : Bool) (p q r : CommandTrace) → r.moved ≡ q.moved → is_used_up orb kept p r ≡ is_used_up orb kept p q
used-by orb kept p q r e =
    ap (λ (xs : List (Option ℕ)). nat_lt (length p.moved) (length xs)
    && ((length xs == counts (data_areas orb p.acts)) && (is_some (next_used_up (latest orb p.acts)) && not kept))) e
