-- Operands: the area that a prefix names is in storage, so an operand is in storage by its real addresses, and
-- bytes of one area of 8,192 stay in a row.
use Rattle.std.proofs.Common.{◌≡◌, ℕ, zero, suc, ◌+◌, ◌-◌, ◌%◌, ◌<◌, ◌≤◌, Bool, ◌&&◌, ◌||◌, ◌==◌, List, [], ◌∷◌, ◌++◌, length, map, take, drop, set, refl, sym, ap, ◌∙◌, arith, add-one, length-append, append_assoc}
use Rattle.std.specs.Prelude.{nat_lt, nat_le, slice_index, slice_range}
use Rattle.std.specs.List.{list_all, range_with_len}
use Rattle.std.proofs.Math.Seq.{sets, take-add}
use Rattle.std.proofs.lemmas.List.{same_lists, map-append, length-set, length-take, length-drop, get_or-take, get_or-drop, length-take-le}
use Rattle.std.proofs.lemmas.Slice.{take-put_mid}
use borrow.Rule.Slice.PartMut.{put_mid}
use Rattle.std.proofs.lemmas.List.{length-map}
use Rattle.std.proofs.lemmas.List.Edits.{sets-eq}
use Rattle.std.proofs.lemmas.List.FromFn.{length-range_with_len, get_or-range_with_len, length-map-range_with_len, get_or-map-range_with_len}
use Rattle.std.proofs.lemmas.Bool.Decides.{nat_tests}
use Rattle.std.proofs.lemmas.Grind.{get_or_default_zero}
use Rattle.storage_keys.specs.Storage.{Contents, IsAddressable, IsPrefix, absolute_under, absolute, absolute_addresses, is_inside, is_operand_inside, with_values, operand_stored, put_at}

-- a real address is in storage where its absolute address is
below-absolute_under : (prefix size real : ℕ) → 8192 ≤ size → prefix + 8192 ≤ size → nat_lt (absolute_under prefix real) size ≡ nat_lt real size
below-absolute_under prefix size real a b = grind (arith, nat_tests)

-- in an area of 8,192 bytes absolute addresses go up with the real ones
absolute_under-add : (prefix real n i : ℕ) → prefix % 8192 ≡ 0 → real % 8192 + n ≤ 8192 → i < n → absolute_under prefix (real + i) ≡ absolute_under prefix real + i
absolute_under-add prefix real n i a b h = grind (arith, nat_tests)

all_inside : (prefix size : ℕ) → 8192 ≤ size → prefix + 8192 ≤ size → (address count : ℕ)
    → list_all (λ other. nat_lt other size) (map (absolute_under prefix) (range_with_len address count)) ≡ (count == 0 || nat_le (address + count) size)
all_inside prefix size a b address zero = refl
all_inside prefix size a b address (suc count) =
    let rest = all_inside prefix size a b (address + 1) count in
    let both : (nat_lt address size && (count == 0 || nat_le (address + 1 + count) size)) ≡ (suc count == 0 || nat_le (address + suc count) size) = grind (arith, nat_tests) in
    ap (λ (x : Bool). x && list_all (λ other. nat_lt other size) (map (absolute_under prefix) (range_with_len (address + 1) count))) (below-absolute_under prefix size address a b)
    ∙ ap (λ (x : Bool). nat_lt address size && x) rest
    ∙ both

pub is_operand_inside-is : (s : Contents) → IsAddressable s → (cpu address count : ℕ) → is_operand_inside s cpu address count ≡ is_inside s address count
unfolding absolute_addresses
is_operand_inside-is s h cpu address count =
    let named : slice_index s.prefixes cpu + 8192 ≤ length s.bytes = (h.prefixes cpu).1 in
    all_inside (slice_index s.prefixes cpu) (length s.bytes) (omega arith) named address count

-- bytes of one area stand in a row
addresses-one_area : (s : Contents) → IsAddressable s → (cpu real n : ℕ) → real % 8192 + n ≤ 8192 → absolute_addresses s cpu real n ≡ range_with_len (absolute s cpu real) n
unfolding absolute_addresses
addresses-one_area s h cpu real n fits =
    same_lists (map (absolute s cpu) (range_with_len real n)) (range_with_len (absolute s cpu real) n)
    (length-map-range_with_len (absolute s cpu) real n ∙ sym (length-range_with_len (absolute s cpu real) n))
    (λ k d below.
    let within : k < n = omega (arith, below, length-map-range_with_len (absolute s cpu) real n) in
    get_or-map-range_with_len (absolute s cpu) real n k (real + k) d within refl
    ∙ absolute_under-add (slice_index s.prefixes cpu) real n k (h.prefixes cpu).0 fits within
    ∙ sym (get_or-range_with_len (absolute s cpu real) n k d within))

area_inside : (prefix size real n : ℕ) → IsPrefix size prefix → real % 8192 + n ≤ 8192 → real + n ≤ size → absolute_under prefix real + n ≤ size
area_inside prefix size real n names area inside =
    let aligned : prefix % 8192 ≡ 0 = names.0 in
    let named : prefix + 8192 ≤ size = names.1 in
    grind (arith, nat_tests)

pub length-slice_range : (xs : List ℕ) (a n : ℕ) → (0 < n → a + n ≤ length xs) → length (slice_range xs a (a + n)) ≡ n
length-slice_range xs a n h = grind (arith, length-take (a + n - a) (drop a xs), length-drop a xs)

pub map-slice_index-range : (bytes : List ℕ) (a n : ℕ) → (0 < n → a + n ≤ length bytes) → map (slice_index bytes) (range_with_len a n) ≡ slice_range bytes a (a + n)
map-slice_index-range bytes a n h =
    same_lists (map (slice_index bytes) (range_with_len a n)) (slice_range bytes a (a + n))
    (length-map-range_with_len (slice_index bytes) a n ∙ sym (length-slice_range bytes a n h))
    (λ k d below.
    let within : k < n = omega (arith, below, length-map-range_with_len (slice_index bytes) a n) in
    let left : k < a + n - a = omega arith in
    let inside : a + k < length bytes = omega arith in
    get_or-map-range_with_len (slice_index bytes) a n k (a + k) d within refl
    ∙ sym (get_or_default_zero bytes (a + k) d inside)
    ∙ sym (get_or-take (a + n - a) (drop a bytes) k d left ∙ get_or-drop a bytes k d))

range_with_len-add : (a m n : ℕ) → range_with_len a (m + n) ≡ range_with_len a m ++ range_with_len (a + m) n
range_with_len-add a zero n =
    let none : 0 + n ≡ n = omega arith in
    let here : a ≡ a + 0 = omega arith in
    ap (range_with_len a) none ∙ ap (λ (k : ℕ). range_with_len k n) here
range_with_len-add a (suc m) n =
    let more : suc m + n ≡ suc (m + n) = omega arith in
    let next : a + 1 + m ≡ a + suc m = omega arith in
    ap (range_with_len a) more
    ∙ ap (λ (xs : List ℕ). a ∷ xs) (range_with_len-add (a + 1) m n ∙ ap (λ (k : ℕ). range_with_len (a + 1) m ++ range_with_len k n) next)

pub addresses-add : (s : Contents) (cpu address m n : ℕ) → absolute_addresses s cpu address (m + n) ≡ absolute_addresses s cpu address m ++ absolute_addresses s cpu (address + m) n
unfolding absolute_addresses
addresses-add s cpu address m n =
    ap (map (absolute s cpu)) (range_with_len-add address m n) ∙ map-append (absolute s cpu) (range_with_len address m) (range_with_len (address + m) n)

length-places : (s : Contents) (cpu address n : ℕ) → length (absolute_addresses s cpu address n) ≡ n
unfolding absolute_addresses
length-places s cpu address n = length-map-range_with_len (absolute s cpu) address n

with_values-append : (bytes ps qs vs ws : List ℕ) → length ps ≡ length vs → with_values bytes (ps ++ qs) (vs ++ ws) ≡ with_values (with_values bytes ps vs) qs ws
with_values-append bytes [] qs [] ws h = refl
with_values-append bytes [] qs (v ∷ vs) ws h = absurd (omega (arith, h))
with_values-append bytes (p ∷ ps) qs [] ws h = absurd (omega (arith, h))
with_values-append bytes (p ∷ ps) qs (v ∷ vs) ws h = with_values-append (set bytes p v) ps qs vs ws (omega (arith, h))

with_values-sets : (vs bytes : List ℕ) (a : ℕ) → with_values bytes (range_with_len a (length vs)) vs ≡ sets bytes a vs
with_values-sets [] bytes a = refl
with_values-sets (v ∷ vs) bytes a = with_values-sets vs (set bytes a v) (a + 1) ∙ ap (λ (k : ℕ). sets (set bytes a v) k vs) (add-one a)

-- values in a row
with_values-range : (vs bytes : List ℕ) (a : ℕ) → a + length vs ≤ length bytes → with_values bytes (range_with_len a (length vs)) vs ≡ take a bytes ++ (vs ++ drop (a + length vs) bytes)
with_values-range vs bytes a h = with_values-sets vs bytes a ∙ sets-eq vs bytes a h ∙ append_assoc (take a bytes) vs (drop (a + length vs) bytes)

length-with_values : (bytes ps vs : List ℕ) → length (with_values bytes ps vs) ≡ length bytes
length-with_values bytes [] vs = refl
length-with_values bytes (p ∷ ps) [] = refl
length-with_values bytes (p ∷ ps) (v ∷ vs) = length-with_values (set bytes p v) ps vs ∙ length-set bytes p v

-- the piece of an operand in one area: it is in storage, stands in a row, and is stored in a row
pub piece_inside : (s : Contents) → IsAddressable s → (cpu real n : ℕ) → real % 8192 + n ≤ 8192 → real + n ≤ length s.bytes → absolute s cpu real + n ≤ length s.bytes
piece_inside s h cpu real n area inside = area_inside (slice_index s.prefixes cpu) (length s.bytes) real n (h.prefixes cpu) area inside

pub piece_read : (s : Contents) → IsAddressable s → (cpu real n : ℕ) → real % 8192 + n ≤ 8192 → real + n ≤ length s.bytes
    → slice_range s.bytes (absolute s cpu real) (absolute s cpu real + n) ≡ map (slice_index s.bytes) (absolute_addresses s cpu real n)
piece_read s h cpu real n area inside =
    sym (ap (map (slice_index s.bytes)) (addresses-one_area s h cpu real n area) ∙ map-slice_index-range s.bytes (absolute s cpu real) n (λ _. piece_inside s h cpu real n area inside))

pub piece_stored : (s : Contents) → IsAddressable s → (cpu real : ℕ) (values : List ℕ) → real % 8192 + length values ≤ 8192 → real + length values ≤ length s.bytes
    → put_at s (absolute s cpu real) values ≡ operand_stored s cpu real values
piece_stored s h cpu real values area inside =
    let same : with_values s.bytes (absolute_addresses s cpu real (length values)) values ≡ take (absolute s cpu real) s.bytes ++ (values ++ drop (absolute s cpu real + length values) s.bytes) =
    ap (λ (ps : List ℕ). with_values s.bytes ps values) (addresses-one_area s h cpu real (length values) area)
    ∙ with_values-range values s.bytes (absolute s cpu real) (piece_inside s h cpu real (length values) area inside) in
    ap (λ (bytes : List ℕ). let t : Contents = record s { bytes = bytes } in t) (sym same)

-- an operand is stored one part after another
pub operand_stored-append : (s : Contents) (cpu address : ℕ) (vs ws : List ℕ)
    → operand_stored s cpu address (vs ++ ws) ≡ operand_stored (operand_stored s cpu address vs) cpu (address + length vs) ws
unfolding absolute_addresses
operand_stored-append s cpu address vs ws =
    let whole : absolute_addresses s cpu address (length (vs ++ ws)) ≡ absolute_addresses s cpu address (length vs) ++ absolute_addresses s cpu (address + length vs) (length ws) =
    ap (absolute_addresses s cpu address) (length-append vs ws) ∙ addresses-add s cpu address (length vs) (length ws) in
    let same : with_values s.bytes (absolute_addresses s cpu address (length (vs ++ ws))) (vs ++ ws) ≡ (operand_stored (operand_stored s cpu address vs) cpu (address + length vs) ws).bytes =
    ap (λ (ps : List ℕ). with_values s.bytes ps (vs ++ ws)) whole
    ∙ with_values-append s.bytes (absolute_addresses s cpu address (length vs)) (absolute_addresses s cpu (address + length vs) (length ws)) vs ws (length-places s cpu address (length vs)) in
    ap (λ (bytes : List ℕ). let t : Contents = record s { bytes = bytes } in t) same

pub operand_stored-nil : (s : Contents) (cpu address : ℕ) → operand_stored s cpu address [] ≡ s
unfolding absolute_addresses
operand_stored-nil s cpu address = refl

pub length-operand_stored : (s : Contents) (cpu address : ℕ) (values : List ℕ) → length (operand_stored s cpu address values).bytes ≡ length s.bytes
length-operand_stored s cpu address values = length-with_values s.bytes (absolute_addresses s cpu address (length values)) values

-- a turn of the loop that stores an operand
pub stored_more : (s t new : Contents) (cpu address done n : ℕ) (values : List ℕ) → done + n ≤ length values → t ≡ operand_stored s cpu address (take done values)
    → new ≡ operand_stored t cpu (address + done) (take (done + n - done) (drop done values)) → new ≡ operand_stored s cpu address (take (done + n) values)
stored_more s t new cpu address done n values within before step =
    let left : done + n - done ≡ n = omega arith in
    let size : length (take done values) ≡ done = length-take-le done values (omega arith) in
    let whole : take (done + n) values ≡ take done values ++ take n (drop done values) = take-add done n values in
    step
    ∙ ap (λ (k : ℕ). operand_stored t cpu (address + done) (take k (drop done values))) left
    ∙ ap (λ (u : Contents). operand_stored u cpu (address + done) (take n (drop done values))) before
    ∙ ap (λ (k : ℕ). operand_stored (operand_stored s cpu address (take done values)) cpu (address + k) (take n (drop done values))) (sym size)
    ∙ sym (operand_stored-append s cpu address (take done values) (take n (drop done values)))
    ∙ ap (operand_stored s cpu address) (sym whole)

pub read-nil : (s : Contents) (cpu address : ℕ) → [] ≡ map (slice_index s.bytes) (absolute_addresses s cpu address 0)
unfolding absolute_addresses
read-nil s cpu address = refl

pub length-read : (s : Contents) (cpu address n : ℕ) → length (map (slice_index s.bytes) (absolute_addresses s cpu address n)) ≡ n
length-read s cpu address n = length-map (absolute_addresses s cpu address n) (slice_index s.bytes) ∙ length-places s cpu address n

-- a turn of the loop that reads an operand
pub read_more : (s : Contents) (cpu address done n k : ℕ) (bytes piece : List ℕ) → done + n ≤ length bytes → take done bytes ≡ map (slice_index s.bytes) (absolute_addresses s cpu address done)
    → piece ≡ map (slice_index s.bytes) (absolute_addresses s cpu (address + done) n) → take (done + n) (put_mid done k bytes piece) ≡ map (slice_index s.bytes) (absolute_addresses s cpu address (done + n))
read_more s cpu address done n k bytes piece within before step =
    let size : length piece ≡ n = ap length step ∙ length-read s cpu (address + done) n in
    take-put_mid done k bytes piece (done + n) (omega arith) (omega arith)
    ∙ ap (λ (xs : List ℕ). xs ++ piece) before
    ∙ ap (λ (xs : List ℕ). map (slice_index s.bytes) (absolute_addresses s cpu address done) ++ xs) step
    ∙ sym (ap (map (slice_index s.bytes)) (addresses-add s cpu address done n) ∙ map-append (slice_index s.bytes) (absolute_addresses s cpu address done) (absolute_addresses s cpu (address + done) n))
