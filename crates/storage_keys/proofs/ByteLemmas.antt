-- Single bytes after a fetch or a store.
use Rattle.std.proofs.Common.{◌≡◌, ◌≢◌, ℕ, zero, suc, ◌+◌, ◌%◌, ◌<◌, ◌≤◌, Bool, true, false, ◌||◌, ◌==◌, List, [], ◌∷◌, ◌++◌, length, map, take, drop, get_or, set, refl, sym, ap, ◌∙◌, subst, arith}
use Rattle.std.specs.Prelude.{IsTrue, Ok, nat_le, slice_index, slice_range}
use Rattle.std.specs.List.{range_with_len}
use Rattle.std.proofs.lemmas.Bool.Decides.{nat_tests}
use Rattle.std.proofs.lemmas.Grind.{common_steps}
use Rattle.std.proofs.lemmas.List.{take-append-drop, get_or-set_other, get_or-set_same, length-set}
use Rattle.storage_keys.specs.Storage.{Contents, IsStorage, absolute_under, absolute, absolute_addresses, is_inside, where_permitted, fetched, with_values, operand_stored, put_at, check_by, keys_permit, key_permits_fetch}
use Rattle.storage_keys.proofs.OperandLemmas.{map-slice_index-range}

-- what is_inside tells of some bytes
inside_le : (address count size : ℕ) → IsTrue (count == 0 || nat_le (address + count) size) → 0 < count → address + count ≤ size
inside_le address count size h some = grind (arith, nat_tests)

bytes_found : (bytes found : List ℕ) (address count : ℕ) (inside permitted : Bool) → (IsTrue inside → 0 < count → address + count ≤ length bytes)
    → where_permitted (check_by inside permitted) (slice_range bytes address (address + count)) ≡ Ok found → found ≡ map (slice_index bytes) (range_with_len address count)
bytes_found bytes found address count true true h e =
    let same : slice_range bytes address (address + count) ≡ found = cc in
    sym same ∙ sym (map-slice_index-range bytes address count (h refl))
bytes_found bytes found address count true false h e = absurd (cc)
bytes_found bytes found address count false permitted h e = absurd (cc)

pub fetched_bytes : (s : Contents) (key address count : ℕ) (bytes : List ℕ) → fetched s key address count ≡ Ok bytes → bytes ≡ map (slice_index s.bytes) (range_with_len address count)
fetched_bytes s key address count bytes e =
    bytes_found s.bytes bytes address count (is_inside s address count) (keys_permit (key_permits_fetch key) s address count) (inside_le address count (length s.bytes)) e

bytes_past : (bytes new : List ℕ) (a address : ℕ) → a + length new ≤ length bytes → a + length new ≤ address → get_or (take a bytes ++ (new ++ drop (a + length new) bytes)) address 0 ≡ get_or bytes address 0
bytes_past bytes new a address h above = grind (arith, common_steps)

-- the bytes past those that are put
bytes_after : (bytes new : List ℕ) (a address : ℕ) → (0 < length new → a + length new ≤ length bytes) → a + length new ≤ address → get_or (take a bytes ++ (new ++ drop (a + length new) bytes)) address 0 ≡ get_or bytes address 0
bytes_after bytes [] a address h above = ap (λ (xs : List ℕ). get_or xs address 0) (let e : a + 0 ≡ a = omega arith in rw e (take-append-drop a bytes))
bytes_after bytes (v ∷ vs) a address h above = bytes_past bytes (v ∷ vs) a address (h (omega arith)) above

pub put_after : (s : Contents) (address : ℕ) (bytes : List ℕ) → IsTrue (is_inside s address (length bytes)) → (other : ℕ) → address + length bytes ≤ other → slice_index (put_at s address bytes).bytes other ≡ slice_index s.bytes other
put_after s address bytes inside other above = bytes_after s.bytes bytes address other (inside_le address (length bytes) (length s.bytes) inside) above

-- two real addresses have two absolute ones, which are in storage where they are
absolute_under-inj : (prefix a b : ℕ) → prefix % 8192 ≡ 0 → absolute_under prefix a ≡ absolute_under prefix b → a ≡ b
absolute_under-inj prefix a b aligned same = grind (arith, nat_tests)

absolute_under-lt : (prefix size real : ℕ) → 8192 ≤ size → prefix + 8192 ≤ size → real < size → absolute_under prefix real < size
absolute_under-lt prefix size real least named inside = grind (arith, nat_tests)

-- values at addresses f a, f (a + 1) and so on
values_others : (f : ℕ → ℕ) (vs bytes : List ℕ) (a address : ℕ) → ((i : ℕ) → i < length vs → address ≢ f (a + i))
    → get_or (with_values bytes (map f (range_with_len a (length vs))) vs) address 0 ≡ get_or bytes address 0
values_others f [] bytes a address apart = refl
values_others f (v ∷ vs) bytes a address apart =
    let later : (i : ℕ) → i < length vs → address ≢ f (a + 1 + i) = λ i h. let e : a + 1 + i ≡ a + suc i = omega arith in subst (λ (k : ℕ). address ≢ f k) (sym e) (apart (suc i) (omega arith)) in
    let here : address ≢ f a = let e : a + 0 ≡ a = omega arith in subst (λ (k : ℕ). address ≢ f k) e (apart 0 (omega arith)) in
    values_others f vs (set bytes (f a) v) (a + 1) address later ∙ get_or-set_other bytes (f a) address v 0 here

values_placed : (f : ℕ → ℕ) → ((a b : ℕ) → f a ≡ f b → a ≡ b) → (vs bytes : List ℕ) (a i : ℕ) → ((k : ℕ) → k < length vs → f (a + k) < length bytes) → i < length vs
    → get_or (with_values bytes (map f (range_with_len a (length vs))) vs) (f (a + i)) 0 ≡ get_or vs i 0
values_placed f inj [] bytes a i inside below = absurd (omega arith)
values_placed f inj (v ∷ vs) bytes a zero inside below =
    let e : a + 0 ≡ a = omega arith in
    let within : f a < length bytes = subst (λ (k : ℕ). f k < length bytes) e (inside 0 (omega arith)) in
    ap (λ (k : ℕ). get_or (with_values (set bytes (f a) v) (map f (range_with_len (a + 1) (length vs))) vs) (f k) 0) e
    ∙ values_others f vs (set bytes (f a) v) (a + 1) (f a) (λ k h same. let one : a ≡ a + 1 + k = inj a (a + 1 + k) same in omega arith)
    ∙ get_or-set_same bytes (f a) v 0 within
values_placed f inj (v ∷ vs) bytes a (suc i) inside below =
    let e : (k : ℕ) → a + suc k ≡ a + 1 + k = λ k. omega arith in
    let later : (k : ℕ) → k < length vs → f (a + 1 + k) < length (set bytes (f a) v) =
    λ k h. subst (λ (n : ℕ). f (a + 1 + k) < n) (sym (length-set bytes (f a) v)) (subst (λ (n : ℕ). f n < length bytes) (e k) (inside (suc k) (omega arith))) in
    ap (λ (k : ℕ). get_or (with_values (set bytes (f a) v) (map f (range_with_len (a + 1) (length vs))) vs) (f k) 0) (e i)
    ∙ values_placed f inj vs (set bytes (f a) v) (a + 1) i later (omega arith)

pub operand_others : (s : Contents) (cpu address : ℕ) (values : List ℕ) (other : ℕ) → ((i : ℕ) → i < length values → other ≢ absolute s cpu (address + i))
    → slice_index (operand_stored s cpu address values).bytes other ≡ slice_index s.bytes other
unfolding absolute_addresses
operand_others s cpu address values other apart = values_others (absolute s cpu) values s.bytes address other apart

pub operand_placed : (s : Contents) (cpu address : ℕ) (values : List ℕ) → IsStorage s → address + length values ≤ length s.bytes → (i : ℕ) → i < length values
    → slice_index (operand_stored s cpu address values).bytes (absolute s cpu (address + i)) ≡ slice_index values i
unfolding absolute_addresses
operand_placed s cpu address values h inside i below =
    values_placed (absolute s cpu) (λ a b. absolute_under-inj (slice_index s.prefixes cpu) a b (h.prefixes cpu).0) values s.bytes address i
    (λ k lt. absolute_under-lt (slice_index s.prefixes cpu) (length s.bytes) (address + k) (omega (arith, h.least)) (h.prefixes cpu).1 (omega arith)) below
