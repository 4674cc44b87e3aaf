-- The requests of the indices that wait, and the tables as the functions change them.
use Rattle.std.proofs.Common.{◌≡◌, refl, sym, ◌∙◌, ap, subst, ℕ, ◌<◌, ◌≤◌, Bool, true, false, not, cond, ◌&&◌, ◌||◌, List, [], ◌∷◌, ◌++◌, length, nat_eq, nat_lt, ◌==◌, eqb-true, eq-eqb, true≢false, Option, Some, None, arith}
use Rattle.std.specs.Prelude.{if◌then◌else◌, slice_get, slice_index_or, slice_set}
use Rattle.std.specs.List.{IsDistinct, AllByRecursion, filter, list_any}
use Rattle.std.proofs.lemmas.Bool.{and_parts, lt-ltb, ltb-true}
use Rattle.std.proofs.lemmas.List.{get_or_read, length-set, map-append}
use Rattle.std.proofs.lemmas.Map.Keys.{IsDistinct-cons, IsDistinct-tail}
use Rattle.scsw_irb.specs.declared.code.IntCode.{IntCode}
use Rattle.interruptions.specs.Circles.{AreAlone, Circles, former_of, next_of}
use Rattle.interruptions.specs.Paths.{IsCircle, IsPut, IsTaken, has, without}
use Rattle.interruptions.proofs.Members.{apart, few, first-false, flipped, head-apart, neither, not-true, second-false}
use Rattle.interruptions.proofs.Walks.{follow-is, moves}
use Rattle.interruptions.specs.Requests.{AtMostOne, WaitingRequests, is_of, no_requests_wait, posted, request_dropped, stands}
use Rattle.interruptions.specs.Indices.{AreOwn, AreQueued, Tables, Wait, first_of, has_subclass, is_class, is_some, no_request, of_subclass, index_of, request_at, request_index, requests_of, value_of, waiting}
use Rattle.interruptions.proofs.Bytes.{no-bit}
use Rattle.interruptions.proofs.Lists.{has-own, in-rest, none-filter}
use Rattle.interruptions.proofs.Queues.{at-other, at-set, dropped-waits, no-index, posted-waits}

-- the walk along the order finds the indices that wait
waiting-is : (t : Tables) (xs : List ℕ) → Wait t xs → waiting t ≡ xs
waiting-is t xs w =
    let room : length xs ≤ index_of 0 t.numbers = few xs (index_of 0 t.numbers) w.distinct w.below in
    follow-is (next_of t.order) (former_of t.order) 0 xs 0 (index_of 1 t.numbers) w.ordered (no-index t.requests xs 0 w.own (omega arith)) (omega (arith, room))

-- the indices of two subchannels
same-numbers : (a b c d : ℕ) → a < 4 → c < 4 → index_of a b ≡ index_of c d → (a ≡ c) × (b ≡ d)
same-numbers a b c d x y e = (omega (arith, x, y, e), omega (arith, x, y, e))

both : {a b : Bool} → a ≡ true → b ≡ true → (a && b) ≡ true
both p q = cc

same-index : (set number : ℕ) (r : IntCode) → set < 4 → is_of set number r ≡ nat_eq (index_of set number) (request_index r)
same-index set number r small =
    elim (nat_eq (index_of set number) (request_index r)) as (λ b. nat_eq (index_of set number) (request_index r) ≡ b → is_of set number r ≡ b) [
      | true ↦ λ same.
          let e = same-numbers set number r.set r.subchannel small r.set_fits (eqb-true (index_of set number) (request_index r) same) in
          both (eq-eqb r.set set (sym e.0)) (eq-eqb r.subchannel number (sym e.1))
      | false ↦ λ other. not-true (λ is.
          let parts = and_parts (r.set == set) (r.subchannel == number) is in
          let e : r.set ≡ set = eqb-true r.set set parts.0 in
          let f : r.subchannel ≡ number = eqb-true r.subchannel number parts.1 in
          apart (index_of set number) (request_index r) other (omega (arith, e, f)))
    ] refl

at-index : (requests : List IntCode) (set number p : ℕ) → set < 4 → request_index (request_at requests p) ≡ p → is_of set number (request_at requests p) ≡ nat_eq (index_of set number) p
at-index requests set number p small e = same-index set number (request_at requests p) small ∙ ap (nat_eq (index_of set number)) e

own-rest : (requests : List IntCode) (x : ℕ) (xs : List ℕ) → AreOwn requests (x ∷ xs) → AreOwn requests xs
own-rest requests x xs own p found = own p (in-rest (nat_eq p x) found)

stands-is : (requests : List IntCode) (set number : ℕ) (xs : List ℕ) → set < 4 → AreOwn requests xs → stands (requests_of requests xs) set number ≡ has (index_of set number) xs
stands-is requests set number [] small own = refl
stands-is requests set number (x ∷ xs) small own =
    ap (λ (b : Bool). b || stands (requests_of requests xs) set number) (at-index requests set number x small (own x (has-own x xs)))
    ∙ ap (λ (b : Bool). nat_eq (index_of set number) x || b) (stands-is requests set number xs small (own-rest requests x xs own))

no-set : (set number : ℕ) (rs : List IntCode) → 4 ≤ set → stands rs set number ≡ false
no-set set number [] h = refl
no-set set number (r ∷ rs) h =
    neither (not-true (λ (is : is_of set number r ≡ true). absurd (omega (arith, h, r.set_fits, eqb-true r.set set (and_parts (r.set == set) (r.subchannel == number) is).0)))) (no-set set number rs h)

dropped-are : (requests : List IntCode) (set number : ℕ) (xs : List ℕ) → set < 4 → AreOwn requests xs
    → requests_of requests (without (index_of set number) xs) ≡ filter (λ request. not (is_of set number request)) (requests_of requests xs)
dropped-are requests set number [] small own = refl
dropped-are requests set number (x ∷ xs) small own =
    let rest = dropped-are requests set number xs small (own-rest requests x xs own) in
    let others = filter (λ request. not (is_of set number request)) (requests_of requests xs) in
    (elim (nat_eq (index_of set number) x) as (λ b. requests_of requests (cond (not b) (x ∷ without (index_of set number) xs) (without (index_of set number) xs)) ≡ cond (not b) (request_at requests x ∷ others) others)
    [ true ↦ rest | false ↦ ap (λ (rs : List IntCode). request_at requests x ∷ rs) rest ])
    ∙ ap (λ (b : Bool). cond (not b) (request_at requests x ∷ others) others) (sym (at-index requests set number x small (own x (has-own x xs))))

-- none stands: nothing is dropped
none-stands : (set number : ℕ) (rs : List IntCode) → stands rs set number ≡ false → filter (λ request. not (is_of set number request)) rs ≡ rs
none-stands set number [] h = refl
none-stands set number (r ∷ rs) h =
    ap (λ (b : Bool). cond (not b) (r ∷ filter (λ request. not (is_of set number request)) rs) (filter (λ request. not (is_of set number request)) rs))
    (first-false (is_of set number r) (stands rs set number) h)
    ∙ ap (λ (xs : List IntCode). r ∷ xs) (none-stands set number rs (second-false (is_of set number r) (stands rs set number) h))

pub none-dropped : (w : WaitingRequests) (set number : ℕ) → stands w.requests set number ≡ false → w ≡ request_dropped w set number
none-dropped w set number h = ap (λ (rs : List IntCode). record w { requests = rs }) (sym (none-stands set number w.requests h))

-- the requests after one was posted
requests-set : (requests : List IntCode) (p : ℕ) (r : IntCode) (xs : List ℕ) → has p xs ≡ false → requests_of (slice_set requests p r) xs ≡ requests_of requests xs
requests-set requests p r [] none = refl
requests-set requests p r (x ∷ xs) none =
    ap (λ (s : IntCode). s ∷ requests_of (slice_set requests p r) xs) (at-other requests p x r (first-false (nat_eq p x) (has p xs) none))
    ∙ ap (λ (rs : List IntCode). request_at requests x ∷ rs) (requests-set requests p r xs (second-false (nat_eq p x) (has p xs) none))

posted-are : (requests : List IntCode) (p : ℕ) (r : IntCode) (xs : List ℕ) → p < length requests → has p xs ≡ false → requests_of (slice_set requests p r) (xs ++ p ∷ []) ≡ requests_of requests xs ++ r ∷ []
posted-are requests p r xs below none =
    map-append (request_at (slice_set requests p r)) xs (p ∷ [])
    ∙ ap (λ (s : IntCode). requests_of (slice_set requests p r) xs ++ s ∷ []) (at-set requests p r below)
    ∙ ap (λ (rs : List IntCode). rs ++ r ∷ []) (requests-set requests p r xs none)

-- the tables have all indices in order, and their value is this
pub record Become (t : Tables) (value : WaitingRequests) : Type 0 where
  pub are_queued : AreQueued t
  pub value_is : value_of t ≡ value

-- no request waits in tables whose numbers are alone
pub made : (numbers count : ℕ) (requests : List IntCode) (order queues : Circles) → count ≡ index_of 0 numbers → AreAlone count order → AreAlone count queues → length requests ≡ count
    → Become (record { numbers = numbers; requests = requests; order = order; queues = queues; summary = 0 }) (no_requests_wait numbers)
unfolding IsDistinct
made numbers count requests order queues e a b long =
    let t : Tables = record { numbers = numbers; requests = requests; order = order; queues = queues; summary = 0 } in
    let w : Wait t [] = record {
      own = λ p found. cc;
      below = λ p found. cc;
      distinct = tt;
      ordered = (a.next 0 (omega (arith, e)), a.former 0 (omega (arith, e)));
      alone = λ p large below out. (a.next p (omega (arith, e, below)), a.former p (omega (arith, e, below)));
      queue = λ k small. (b.next k (omega (arith, e, small)), b.former k (omega (arith, e, small)));
      bits = λ k small. no-bit k small;
    } in
    record {
      are_queued = record { requests_long = long ∙ e; order_long = a.long ∙ e; queues_long = b.long ∙ e; wait = subst (Wait t) (sym (waiting-is t [] w)) w };
      value_is = ap (λ (xs : List ℕ). record { requests = requests_of requests xs; numbers = numbers }) (waiting-is t [] w);
    }

module _ {t : Tables} (a : AreQueued t) where
  abbrev indices : List ℕ
  indices = waiting t

  -- a request is posted
  post-at : (r : IntCode) (order queues : Circles) (summary : ℕ) → r.subchannel < t.numbers → stands (requests_of t.requests (waiting t)) r.set r.subchannel ≡ false
      → IsPut t.order 0 (request_index r) order → IsPut t.queues r.subclass (request_index r) queues
      → ((k : ℕ) → k < 8 → has_subclass summary k ≡ (if r.subclass == k then true else has_subclass t.summary k))
      → Become (record { numbers = t.numbers; requests = slice_set t.requests (request_index r) r; order = order; queues = queues; summary = summary }) (posted (value_of t) r)
  post-at r order queues summary within free o q s =
      let p = request_index r in
      let t' : Tables = record { numbers = t.numbers; requests = slice_set t.requests p r; order = order; queues = queues; summary = summary } in
      let none : has p indices ≡ false = sym (stands-is t.requests r.set r.subchannel indices r.set_fits a.wait.own) ∙ free in
      let below : p < length t.requests = omega (arith, within, r.set_fits, a.requests_long) in
      let w : Wait t' (indices ++ p ∷ []) = posted-waits t indices r order queues summary a.wait below a.requests_long none o q s in
      let found : waiting t' ≡ indices ++ p ∷ [] = waiting-is t' (indices ++ p ∷ []) w in
      record {
        are_queued = record {
          requests_long = length-set t.requests p r ∙ a.requests_long;
          order_long = o.long ∙ a.order_long;
          queues_long = q.long ∙ a.queues_long;
          wait = subst (Wait t') (sym found) w;
        };
        value_is =
            ap (λ (ys : List ℕ). record { requests = requests_of (slice_set t.requests p r) ys; numbers = t.numbers }) found
            ∙ ap (λ (rs : List IntCode). record { requests = rs; numbers = t.numbers }) (posted-are t.requests p r indices below none)
            ∙ ap (λ (b : Bool). if b then value_of t else record { requests = requests_of t.requests indices ++ r ∷ []; numbers = t.numbers }) (sym free);
      }

  pub post-any : (r : IntCode) (order queues : Circles) (summary p queue : ℕ) → r.subchannel < t.numbers → stands (requests_of t.requests (waiting t)) r.set r.subchannel ≡ false
      → p ≡ request_index r → queue ≡ r.subclass → IsPut t.order 0 p order → IsPut t.queues queue p queues
      → ((k : ℕ) → k < 8 → has_subclass summary k ≡ (if r.subclass == k then true else has_subclass t.summary k))
      → Become (record { numbers = t.numbers; requests = slice_set t.requests p r; order = order; queues = queues; summary = summary }) (posted (value_of t) r)
  post-any r order queues summary p queue within free e f o q s =
      subst (λ (x : ℕ). Become (record { numbers = t.numbers; requests = slice_set t.requests x r; order = order; queues = queues; summary = summary }) (posted (value_of t) r)) (sym e)
      (post-at r order queues summary within free (subst (λ (x : ℕ). IsPut t.order 0 x order) e o)
      (subst (λ (x : ℕ). IsPut t.queues r.subclass x queues) e (subst (λ (k : ℕ). IsPut t.queues k p queues) f q)) s)

  -- a subchannel that has a request has an index, which waits
  module _ (set number : ℕ) (there : stands (requests_of t.requests (waiting t)) set number ≡ true) where
    pub set-small : set < 4
    set-small =
        let big : 4 ≤ set → ⊥ = λ far. true≢false (sym there ∙ no-set set number (requests_of t.requests indices) far) in
        omega (arith, big)

    its-index : has (index_of set number) (waiting t) ≡ true
    its-index = sym (stands-is t.requests set number indices set-small a.wait.own) ∙ there

    pub its-bound : index_of set number < index_of 0 t.numbers
    its-bound = a.wait.below (index_of set number) its-index

    drop-at : (order queues : Circles) (summary : ℕ) → IsTaken t.order (index_of set number) order → IsTaken t.queues (index_of set number) queues
        → ((k : ℕ) → k < 8 → has_subclass summary k ≡ (if (request_at t.requests (index_of set number)).subclass == k then not (next_of queues (request_at t.requests (index_of set number)).subclass == (request_at t.requests (index_of set number)).subclass) else has_subclass t.summary k))
        → Become (record { numbers = t.numbers; requests = t.requests; order = order; queues = queues; summary = summary }) (request_dropped (value_of t) set number)
    drop-at order queues summary o q s =
        let p = index_of set number in
        let t' : Tables = record { numbers = t.numbers; requests = t.requests; order = order; queues = queues; summary = summary } in
        let w : Wait t' (without p indices) = dropped-waits t indices p order queues summary a.wait its-index o q s in
        let found : waiting t' ≡ without p indices = waiting-is t' (without p indices) w in
        record {
          are_queued = record {
            requests_long = a.requests_long;
            order_long = o.long ∙ a.order_long;
            queues_long = q.long ∙ a.queues_long;
            wait = subst (Wait t') (sym found) w;
          };
          value_is =
              ap (λ (ys : List ℕ). record { requests = requests_of t.requests ys; numbers = t.numbers }) found
              ∙ ap (λ (rs : List IntCode). record { requests = rs; numbers = t.numbers }) (dropped-are t.requests set number indices set-small a.wait.own);
        }

    pub drop-any : (r : IntCode) (order queues : Circles) (summary p queue next : ℕ) → p ≡ index_of set number → r ≡ slice_index_or t.requests p r → queue ≡ r.subclass
        → IsTaken t.order p order → IsTaken t.queues p queues → next ≡ next_of queues queue
        → ((k : ℕ) → k < 8 → has_subclass summary k ≡ (if r.subclass == k then not (next == queue) else has_subclass t.summary k))
        → Become (record { numbers = t.numbers; requests = t.requests; order = order; queues = queues; summary = summary }) (request_dropped (value_of t) set number)
    drop-any r order queues summary p queue next e is f o q n s =
        let c = (request_at t.requests (index_of set number)).subclass in
        let own : r ≡ request_at t.requests (index_of set number) = get_or_read t.requests p r (omega (arith, e, its-bound, a.requests_long)) is no_request ∙ ap (request_at t.requests) e in
        let class : r.subclass ≡ c = ap (λ (x : IntCode). x.subclass) own in
        let test : not (next == queue) ≡ not (next_of queues c == c) = ap (λ (x : ℕ). not (x == queue)) n ∙ ap (λ (x : ℕ). not (next_of queues x == x)) (f ∙ class) in
        drop-at order queues summary (subst (λ (x : ℕ). IsTaken t.order x order) e o) (subst (λ (x : ℕ). IsTaken t.queues x queues) e q)
        (λ k small. s k small ∙ ap (λ (x : ℕ). if x == k then not (next == queue) else has_subclass t.summary k) class
        ∙ ap (λ (b : Bool). if c == k then b else has_subclass t.summary k) test)

  -- whether a subchannel has a request
  pub stands-next : (set number p : ℕ) → (nat_lt set 4 && nat_lt number t.numbers) ≡ true → p ≡ index_of set number → not (next_of t.order p == p) ≡ stands (requests_of t.requests (waiting t)) set number
  stands-next set number p h e =
      let small : set < 4 = ltb-true set 4 (and_parts (nat_lt set 4) (nat_lt number t.numbers) h).0 in
      let within : number < t.numbers = ltb-true number t.numbers (and_parts (nat_lt set 4) (nat_lt number t.numbers) h).1 in
      (elim (has p indices) as (λ b. has p indices ≡ b → not (next_of t.order p == p) ≡ b) [
        | true ↦ λ is. ap not (moves (next_of t.order) (former_of t.order) 0 indices 0 p a.wait.ordered a.wait.distinct (no-index t.requests indices 0 a.wait.own (omega arith)) is)
        | false ↦ λ is. ap not (eq-eqb (next_of t.order p) p (a.wait.alone p (omega (arith, e)) (omega (arith, e, small, within)) is).0)
      ] refl)
      ∙ ap (λ (x : ℕ). has x indices) e
      ∙ sym (stands-is t.requests set number indices small a.wait.own)

  pub stands-nowhere : (set number : ℕ) → (nat_lt set 4 && nat_lt number t.numbers) ≡ false → stands (requests_of t.requests (waiting t)) set number ≡ false
  stands-nowhere set number h =
      not-true (λ there. true≢false (sym (both (lt-ltb set 4 (set-small set number there)) (lt-ltb number t.numbers (omega (arith, its-bound set number there)))) ∙ h))

-- no two requests are of one subchannel
unlike : (requests : List IntCode) (x : ℕ) (xs : List ℕ) → request_index (request_at requests x) ≡ x → AreOwn requests xs → has x xs ≡ false
    → AllByRecursion (λ second. is_of (request_at requests x).set (request_at requests x).subchannel second ≡ false) (requests_of requests xs)
unlike requests x [] e own none = tt
unlike requests x (y ∷ ys) e own none = (
  at-index requests (request_at requests x).set (request_at requests x).subchannel y (request_at requests x).set_fits (own y (has-own y ys))
      ∙ ap (λ (z : ℕ). nat_eq z y) e ∙ first-false (nat_eq x y) (has x ys) none,
  unlike requests x ys e (own-rest requests y ys own) (second-false (nat_eq x y) (has x ys) none),
)

pub at-most : (requests : List IntCode) (xs : List ℕ) → AreOwn requests xs → IsDistinct nat_eq xs → AtMostOne (requests_of requests xs)
unfolding IsDistinct
at-most requests [] own d = tt
at-most requests (x ∷ xs) own d =
    IsDistinct-cons (λ (first second : IntCode). is_of first.set first.subchannel second) (request_at requests x) (requests_of requests xs)
    (unlike requests x xs (own x (has-own x xs)) (own-rest requests x xs own) (head-apart x xs d)) (at-most requests xs (own-rest requests x xs own) (IsDistinct-tail nat_eq x xs d))

-- the requests of a subclass are those of the indices of its queue
class-are : (requests : List IntCode) (k : ℕ) (xs : List ℕ) → requests_of requests (of_subclass requests k xs) ≡ filter (λ request. request.subclass == k) (requests_of requests xs)
class-are requests k [] = refl
class-are requests k (x ∷ xs) =
    let rest = filter (λ request. request.subclass == k) (requests_of requests xs) in
    elim (is_class requests k x) as (λ b. requests_of requests (cond b (x ∷ of_subclass requests k xs) (of_subclass requests k xs)) ≡ cond b (request_at requests x ∷ rest) rest)
    [ true ↦ ap (λ (rs : List IntCode). request_at requests x ∷ rs) (class-are requests k xs) | false ↦ class-are requests k xs ]

pub waited-is : (requests : List IntCode) (k : ℕ) (xs : List ℕ) → is_some (of_subclass requests k xs) ≡ list_any (λ request. request.subclass == k) (requests_of requests xs)
waited-is requests k [] = refl
waited-is requests k (x ∷ xs) =
    elim (is_class requests k x) as (λ b. is_some (cond b (x ∷ of_subclass requests k xs) (of_subclass requests k xs)) ≡ (b || list_any (λ request. request.subclass == k) (requests_of requests xs)))
    [ true ↦ refl | false ↦ waited-is requests k xs ]

-- the first request of a circle
pub first-request : (requests : List IntCode) (c : Circles) (at : ℕ) (xs : List ℕ) → IsCircle c at xs → has at xs ≡ false
    → slice_get (requests_of requests xs) 0 ≡ (if next_of c at == at then None else Some (request_at requests (next_of c at)))
first-request requests c at [] h none = ap (λ (b : Bool). if b then None else Some (request_at requests (next_of c at))) (sym (eq-eqb (next_of c at) at h.0))
first-request requests c at (y ∷ ys) h none =
    let other : (next_of c at == at) ≡ false = ap (λ (x : ℕ). x == at) h.0 ∙ flipped at y (first-false (nat_eq at y) (has at ys) none) in
    ap (λ (x : ℕ). Some (request_at requests x)) (sym h.0) ∙ ap (λ (b : Bool). if b then None else Some (request_at requests (next_of c at))) (sym other)

-- so the first request of a queue is that of its subclass
pub queue-first : {t : Tables} (a : AreQueued t) (requests : List IntCode) (queue subclass : ℕ) (result : Option IntCode) → subclass < 8 → requests ≡ t.requests → queue ≡ subclass
    → ((indices : List ℕ) → IsCircle t.queues queue indices → has queue indices ≡ false → result ≡ slice_get (requests_of requests indices) 0)
    → result ≡ first_of (requests_of t.requests (waiting t)) subclass
queue-first {t} a requests queue subclass result small e f h =
    let queued = of_subclass t.requests subclass (waiting t) in
    h queued (subst (λ (k : ℕ). IsCircle t.queues k queued) (sym f) (a.wait.queue subclass small))
    (ap (λ (k : ℕ). has k queued) f ∙ none-filter (is_class t.requests subclass) (waiting t) subclass (no-index t.requests (waiting t) subclass a.wait.own small))
    ∙ ap (λ (rs : List IntCode). slice_get (requests_of rs queued) 0) e
    ∙ ap (λ (rs : List IntCode). slice_get rs 0) (class-are t.requests subclass (waiting t))
