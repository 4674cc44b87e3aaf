-- The indices that wait after a request was posted, and after one was dropped.
use Rattle.std.proofs.Common.{◌≡◌, refl, sym, ◌∙◌, ap, subst, ℕ, ◌<◌, ◌≤◌, Bool, true, false, not, cond, ◌||◌, List, [], ◌∷◌, ◌++◌, length, nat_eq, ◌==◌, eqb-true, eq-eqb, true≢false, append-nil, arith}
use Rattle.std.specs.Prelude.{if◌then◌else◌, slice_set}
use Rattle.std.specs.List.{IsDistinct}
use Rattle.std.proofs.lemmas.List.{get_or-set_same, get_or-set_other}
use Rattle.std.proofs.lemmas.Map.Keys.{IsDistinct-cons}
use Rattle.scsw_irb.specs.declared.code.IntCode.{IntCode}
use Rattle.interruptions.specs.Circles.{Circles, next_of}
use Rattle.interruptions.specs.Paths.{IsCircle, IsPut, IsTaken, has, without}
use Rattle.interruptions.proofs.Members.{all-others, apart, differ, first-false, flipped, neither, not-own, not-true, second-false, without-none}
use Rattle.interruptions.specs.Indices.{AreOwn, Tables, Wait, has_subclass, is_class, is_some, no_request, of_subclass, index_of, request_at, request_index}
use Rattle.interruptions.proofs.Lists.{distinct-end, distinct-filter, filter-end, filter-turned, has-end, in-filter, none-filter, same-filter, stays-in, test-of}

-- a table that is changed at one index
pub at-set : (requests : List IntCode) (p : ℕ) (r : IntCode) → p < length requests → request_at (slice_set requests p r) p ≡ r
at-set requests p r below = get_or-set_same requests p r no_request below

pub at-other : (requests : List IntCode) (p q : ℕ) (r : IntCode) → nat_eq p q ≡ false → request_at (slice_set requests p r) q ≡ request_at requests q
at-other requests p q r other = get_or-set_other requests p q r no_request (λ e. apart p q other (sym e))

-- the numbers of the queues are no indices
pub no-index : (requests : List IntCode) (xs : List ℕ) (k : ℕ) → AreOwn requests xs → k < 8 → has k xs ≡ false
no-index requests xs k own small = not-true (λ found. absurd (omega (arith, own k found, small)))

large-apart : (p k : ℕ) → 8 ≤ p → k < 8 → nat_eq p k ≡ false
large-apart p k large small = differ p k (λ e. absurd (omega (arith, e, large, small)))

-- the number of a queue with its places
with-queue : (requests : List IntCode) (xs : List ℕ) (k : ℕ) → AreOwn requests xs → IsDistinct nat_eq xs → k < 8 → IsDistinct nat_eq (k ∷ of_subclass requests k xs)
with-queue requests xs k own d small =
    let ys = of_subclass requests k xs in
    IsDistinct-cons nat_eq k ys (all-others k ys (none-filter (is_class requests k) xs k (no-index requests xs k own small))) (distinct-filter (is_class requests k) xs d)

outside : (requests : List IntCode) (xs : List ℕ) (q k : ℕ) → nat_eq q k ≡ false → has q xs ≡ false → has q (k ∷ of_subclass requests k xs) ≡ false
outside requests xs q k other none = neither other (none-filter (is_class requests k) xs q none)

is-some-end : (ys : List ℕ) (p : ℕ) → is_some (ys ++ p ∷ []) ≡ true
is-some-end [] p = refl
is-some-end (y ∷ ys) p = refl

-- a queue has a request where its next number is another one
waits-next : (c : Circles) (k : ℕ) (ys : List ℕ) → IsCircle c k ys → has k ys ≡ false → not (next_of c k == k) ≡ is_some ys
waits-next c k [] h none = ap not (eq-eqb (next_of c k) k h.0)
waits-next c k (y ∷ ys) h none = ap (λ (x : ℕ). not (x == k)) h.0 ∙ ap not (flipped k y (first-false (nat_eq k y) (has k ys) none))

with-order : (requests : List IntCode) (xs : List ℕ) → AreOwn requests xs → IsDistinct nat_eq xs → IsDistinct nat_eq (0 ∷ xs)
with-order requests xs own d = IsDistinct-cons nat_eq 0 xs (all-others 0 xs (no-index requests xs 0 own (omega arith))) d

-- a request is posted at an index that does not wait
module _ (t : Tables) (xs : List ℕ) (r : IntCode) (order queues : Circles) (summary : ℕ) (w : Wait t xs) (below : request_index r < length t.requests) (long : length t.requests ≡ index_of 0 t.numbers) (none : has (request_index r) xs ≡ false)
    (o : IsPut t.order 0 (request_index r) order) (q : IsPut t.queues r.subclass (request_index r) queues)
    (s : (k : ℕ) → k < 8 → has_subclass summary k ≡ (if r.subclass == k then true else has_subclass t.summary k)) where
  abbrev p : ℕ
  p = request_index r

  abbrev now : List IntCode
  now = slice_set t.requests p r

  elsewhere : (k : ℕ) → has k xs ≡ true → request_at now k ≡ request_at t.requests k
  elsewhere k found = at-other t.requests p k r (not-own p xs k none found)

  posted-queue : (k : ℕ) → of_subclass now k (xs ++ p ∷ []) ≡ of_subclass t.requests k xs ++ cond (r.subclass == k) (p ∷ []) []
  posted-queue k =
      filter-end (is_class now k) xs p
      ∙ ap (λ (s : IntCode). of_subclass now k xs ++ cond (s.subclass == k) (p ∷ []) []) (at-set t.requests p r below)
      ∙ ap (λ (ys : List ℕ). ys ++ cond (r.subclass == k) (p ∷ []) [])
      (same-filter (is_class now k) (is_class t.requests k) xs (λ j found. ap (λ (s : IntCode). s.subclass == k) (elsewhere j found)))

  posted-circle : (k : ℕ) → k < 8 → IsCircle queues k (of_subclass now k (xs ++ p ∷ []))
  posted-circle k small =
      let c = r.subclass in
      let ys = of_subclass t.requests c xs in
      let zs = of_subclass t.requests k xs in
      let free : (j : ℕ) → j < 8 → has p (j ∷ of_subclass t.requests j xs) ≡ false = λ j less. outside t.requests xs p j (large-apart p j (omega arith) less) none in
      subst (IsCircle queues k) (sym (posted-queue k))
      (elim (c == k) as (λ b. nat_eq c k ≡ b → IsCircle queues k (zs ++ cond b (p ∷ []) [])) [
        | true ↦ λ same. subst (λ (j : ℕ). IsCircle queues j (of_subclass t.requests j xs ++ p ∷ [])) (eqb-true c k same)
            (q.own ys (w.queue c r.subclass_fits) (with-queue t.requests xs c w.own w.distinct r.subclass_fits) (free c r.subclass_fits))
        | false ↦ λ other. subst (IsCircle queues k) (sym (append-nil zs))
            (q.others ys (w.queue c r.subclass_fits) k zs (w.queue k small) (outside t.requests xs c k other (no-index t.requests xs c w.own r.subclass_fits)) (free k small))
      ] refl)

  -- an index that waits now is one that did, or that of the request
  is-old : (k : ℕ) (P : Type 0) → has k (xs ++ p ∷ []) ≡ true → (has k xs ≡ true → P) → (p ≡ k → P) → P
  is-old k P found old new = elim (has k xs) as (λ b. has k xs ≡ b → P) [
    | true ↦ λ is. old is
    | false ↦ λ is. new (sym (eqb-true k p (ap (λ (b : Bool). b || nat_eq k p) (sym is) ∙ sym (has-end k xs p) ∙ found)))
  ] refl

  pub posted-waits : Wait (record { numbers = t.numbers; requests = slice_set t.requests (request_index r) r; order = order; queues = queues; summary = summary }) (xs ++ request_index r ∷ [])
  posted-waits = record {
    own = λ k found. is-old k (request_index (request_at now k) ≡ k) found
        (λ is. ap request_index (elsewhere k is) ∙ w.own k is)
        (λ e. subst (λ (j : ℕ). request_index (request_at now j) ≡ j) e (ap request_index (at-set t.requests p r below)));
    below = λ k found. is-old k (k < index_of 0 t.numbers) found (w.below k) (λ e. omega (arith, below, long, e));
    distinct = distinct-end xs p w.distinct none;
    ordered = o.own xs w.ordered (with-order t.requests xs w.own w.distinct) (neither (large-apart p 0 (omega arith) (omega arith)) none);
    alone = λ k large bound out.
        let parts : (has k xs || nat_eq k p) ≡ false = sym (has-end k xs p) ∙ out in
        o.others xs w.ordered k [] (w.alone k large bound (first-false (has k xs) (nat_eq k p) parts))
        (neither (flipped k 0 (large-apart k 0 large (omega arith))) refl) (neither (flipped k p (second-false (has k xs) (nat_eq k p) parts)) refl);
    queue = posted-circle;
    bits = λ k small.
        let zs = of_subclass t.requests k xs in
        s k small
        ∙ (elim (r.subclass == k) as (λ b. (if b then true else has_subclass t.summary k) ≡ is_some (zs ++ cond b (p ∷ []) []))
        [ true ↦ sym (is-some-end zs p) | false ↦ w.bits k small ∙ ap is_some (sym (append-nil zs)) ])
        ∙ ap is_some (sym (posted-queue k));
  }

-- the request of an index that waits is dropped
module _ (t : Tables) (xs : List ℕ) (p : ℕ) (order queues : Circles) (summary : ℕ) (w : Wait t xs) (found : has p xs ≡ true)
    (o : IsTaken t.order p order) (q : IsTaken t.queues p queues)
    (s : (k : ℕ) → k < 8 → has_subclass summary k ≡ (if (request_at t.requests p).subclass == k then not (next_of queues (request_at t.requests p).subclass == (request_at t.requests p).subclass) else has_subclass t.summary k)) where
  abbrev c : ℕ
  c = (request_at t.requests p).subclass

  small-class : c < 8
  small-class = (request_at t.requests p).subclass_fits

  large : 8 ≤ p
  large = omega (arith, w.own p found)

  dropped-queue : (k : ℕ) → of_subclass t.requests k (without p xs) ≡ without p (of_subclass t.requests k xs)
  dropped-queue k = filter-turned (is_class t.requests k) (λ other. not (nat_eq p other)) xs

  among : has p (of_subclass t.requests c xs) ≡ true
  among = stays-in (is_class t.requests c) xs p found (eq-eqb c c refl)

  not-among : (k : ℕ) → nat_eq c k ≡ false → has p (of_subclass t.requests k xs) ≡ false
  not-among k other = not-true (λ is. true≢false (sym (test-of (is_class t.requests k) xs p is) ∙ other))

  left-own : AreOwn t.requests (without p xs)
  left-own k found = w.own k (in-filter (λ other. not (nat_eq p other)) xs k found)

  dropped-circle : (k : ℕ) → k < 8 → IsCircle queues k (of_subclass t.requests k (without p xs))
  dropped-circle k small =
      let ys = of_subclass t.requests c xs in
      let zs = of_subclass t.requests k xs in
      subst (IsCircle queues k) (sym (dropped-queue k))
      (elim (c == k) as (λ b. nat_eq c k ≡ b → IsCircle queues k (without p zs)) [
        | true ↦ λ same. subst (λ (j : ℕ). IsCircle queues j (without p (of_subclass t.requests j xs))) (eqb-true c k same)
            (q.own c ys (w.queue c small-class) (with-queue t.requests xs c w.own w.distinct small-class) among)
        | false ↦ λ other. subst (IsCircle queues k) (sym (without-none p zs (not-among k other)))
            (q.others c ys (w.queue c small-class) among k zs (w.queue k small) (neither (large-apart p k large small) (not-among k other)))
      ] refl)

  pub dropped-waits : Wait (record { numbers = t.numbers; requests = t.requests; order = order; queues = queues; summary = summary }) (without p xs)
  dropped-waits = record {
    own = left-own;
    below = λ k is. w.below k (in-filter (λ other. not (nat_eq p other)) xs k is);
    distinct = distinct-filter (λ other. not (nat_eq p other)) xs w.distinct;
    ordered = o.own 0 xs w.ordered (with-order t.requests xs w.own w.distinct) found;
    alone = λ k big bound out. elim (nat_eq p k) as (λ b. nat_eq p k ≡ b → IsCircle order k []) [
      | true ↦ λ same. subst (λ (j : ℕ). IsCircle order j []) (eqb-true p k same) o.itself
      | false ↦ λ other. o.others 0 xs w.ordered found k []
          (w.alone k big bound (not-true (λ is. true≢false (sym (stays-in (λ j. not (nat_eq p j)) xs k is (ap not other)) ∙ out)))) (neither other refl)
    ] refl;
    queue = dropped-circle;
    bits = λ k small.
        s k small
        ∙ (elim (c == k) as (λ b. nat_eq c k ≡ b → (if b then not (next_of queues c == c) else has_subclass t.summary k) ≡ is_some (of_subclass t.requests k (without p xs))) [
          | true ↦ λ same. subst (λ (j : ℕ). not (next_of queues c == c) ≡ is_some (of_subclass t.requests j (without p xs))) (eqb-true c k same)
              (waits-next queues c (of_subclass t.requests c (without p xs)) (dropped-circle c small-class)
              (none-filter (is_class t.requests c) (without p xs) c (no-index t.requests (without p xs) c left-own small-class)))
          | false ↦ λ other. w.bits k small ∙ ap is_some (sym (without-none p (of_subclass t.requests k xs) (not-among k other)) ∙ sym (dropped-queue k))
        ] refl);
  }
