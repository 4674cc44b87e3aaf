-- Storage that is lent is addressable, and its keys are those that its bytes show.
use Rattle.std.proofs.Common.{◌≡◌, ℕ, zero, suc, ◌+◌, ◌-◌, ◌*◌, ◌/◌, ◌%◌, ◌^◌, ◌<◌, ◌≤◌, Bool, true, false, ◌&&◌, ◌||◌, ◌==◌, List, [], ◌∷◌, length, map, take, drop, refl, sym, ap, subst, ◌∙◌, arith}
use Rattle.std.specs.Prelude.{IsTrue, Some, None, nat_le, option_map, if◌then◌else◌, slice_get, slice_index, slice_range, slice_set}
use Rattle.std.specs.List.{list_all}
use Rattle.std.proofs.lemmas.Bool.Decides.{nat_tests}
use Rattle.std.proofs.Math.Bridge.{le_prop}
use Rattle.std.proofs.lemmas.List.{length-map, length-set, map-set, take-map, drop-map}
use Rattle.std.proofs.lemmas.Option.{slice_get-map}
use Rattle.std.proofs.lemmas.List.Folds.{list_all-map}
use Rattle.storage_keys.specs.declared.key.Key.{Key}
use Rattle.storage_keys.specs.Storage.{IsAddressable, IsPrefix, access-lt, are_areas, are_blocks, bit_number, byte_of, is_prefix, lent_contents, may_be_lent, key_of_byte, keys_permit}

both : (a b : Bool) → IsTrue (a && b) → IsTrue a × IsTrue b
both true true h = (refl, refl)
both true false h = absurd (cc h)
both false b h = absurd (cc h)

prefix-is : (size prefix : ℕ) → IsTrue (is_prefix size prefix) → IsPrefix size prefix
prefix-is size prefix h = (grind (arith, nat_tests), grind (arith, nat_tests))

-- where each prefix that is lent names an area, that of each CPU does
areas : (size : ℕ) (prefixes : List ℕ) (cpu : ℕ) → 8192 ≤ size → IsTrue (list_all (is_prefix size) prefixes) → IsPrefix size (slice_index prefixes cpu)
areas size [] cpu least h = (refl, omega arith)
areas size (p ∷ ps) zero least h = prefix-is size p (both (is_prefix size p) (list_all (is_prefix size) ps) h).0
areas size (p ∷ ps) (suc cpu) least h = areas size ps cpu least (both (is_prefix size p) (list_all (is_prefix size) ps) h).1

least-size : (size blocks : ℕ) → IsTrue (nat_le 16 blocks) → IsTrue (size == 4096 * blocks) → 8192 ≤ size
least-size size blocks some same = grind (arith, nat_tests)

greatest-size : (size blocks : ℕ) → IsTrue (nat_le blocks 524288) → IsTrue (size == 4096 * blocks) → size ≤ 2 ^ 31
greatest-size size blocks few same = grind (arith, nat_tests)

most-blocks : (blocks : ℕ) → IsTrue (nat_le blocks 524288) → blocks ≤ 524288
most-blocks blocks few = grind (arith, nat_tests)

whole-blocks : (size blocks : ℕ) → IsTrue (size == 4096 * blocks) → size ≡ 4096 * blocks
whole-blocks size blocks same = grind (arith, nat_tests)

inside-size : (address count size : ℕ) → IsTrue (count == 0 || nat_le (address + count) size) → 0 < count → address + count ≤ size
inside-size address count size inside some = grind (arith, nat_tests)

-- what may be lent, part by part
record IsLendable (size blocks : ℕ) (prefixes : List ℕ) : Type 0 where
  pub least : IsTrue (nat_le 16 blocks)
  pub greatest : IsTrue (nat_le blocks 524288)
  pub whole : IsTrue (size == 4096 * blocks)
  pub cpus : IsTrue (length prefixes == 16)
  pub areas : IsTrue (list_all (is_prefix size) prefixes)

lendable : (size blocks : ℕ) (prefixes : List ℕ) → IsTrue (may_be_lent size blocks prefixes) → IsLendable size blocks prefixes
lendable size blocks prefixes h =
    let parts = both (are_blocks size blocks) (are_areas size prefixes) h in
    let one = both (nat_le 16 blocks) (nat_le blocks 524288 && size == 4096 * blocks) parts.0 in
    let two = both (nat_le blocks 524288) (size == 4096 * blocks) one.1 in
    let three = both (length prefixes == 16) (list_all (is_prefix size) prefixes) parts.1 in
    record { least = one.0; greatest = two.0; whole = two.1; cpus = three.0; areas = three.1 }

sixteen : (count : ℕ) → IsTrue (count == 16) → count ≡ 16
sixteen count h = grind (arith, nat_tests)

pub lent-addressable : (bytes keys prefixes : List ℕ) → IsTrue (may_be_lent (length bytes) (length keys) prefixes) → IsAddressable (lent_contents bytes keys prefixes)
lent-addressable bytes keys prefixes h =
    let size = length bytes in
    let blocks = length keys in
    let k = lendable size blocks prefixes h in
    record {
      blocks = whole-blocks size blocks k.whole ∙ ap (λ n. 4096 * n) (sym (length-map keys key_of_byte));
      cpus = sixteen (length prefixes) k.cpus;
      greatest = greatest-size size blocks k.greatest k.whole;
      prefixes = λ cpu. areas size prefixes cpu (least-size size blocks k.least k.whole) k.areas;
    }

blocks-permit : (permits : Key → Bool) (keys : List ℕ) (none : Bool) (a b : ℕ) →
    list_all (λ byte. permits (key_of_byte byte)) (if none then [] else slice_range keys a b) ≡ list_all permits (if none then [] else slice_range (map key_of_byte keys) a b)
blocks-permit permits keys true a b = refl
blocks-permit permits keys false a b =
    let same : slice_range (map key_of_byte keys) a b ≡ map key_of_byte (slice_range keys a b) =
    ap (take (b - a)) (drop-map key_of_byte a keys) ∙ take-map key_of_byte (b - a) (drop a keys) in
    sym (ap (list_all permits) same ∙ list_all-map permits key_of_byte (slice_range keys a b))

-- what the keys of some blocks permit is told by their bytes
pub lent-permit : (permits : Key → Bool) (bytes keys prefixes : List ℕ) (address count : ℕ) →
    list_all (λ byte. permits (key_of_byte byte)) (if count == 0 then [] else slice_range keys (address / 4096) ((address + (count - 1)) / 4096 + 1))
    ≡ keys_permit permits (lent_contents bytes keys prefixes) address count
lent-permit permits bytes keys prefixes address count =
    blocks-permit permits keys (count == 0) (address / 4096) ((address + (count - 1)) / 4096 + 1)

-- the last of the blocks in which some bytes lie has a key
pub lent-block : (size blocks : ℕ) (prefixes : List ℕ) (address count : ℕ) → IsTrue (may_be_lent size blocks prefixes) → IsTrue (count == 0 || nat_le (address + count) size) → 0 < count →
    (address + (count - 1)) / 4096 < blocks
lent-block size blocks prefixes address count h inside some =
    let same : size ≡ 4096 * blocks = whole-blocks size blocks (lendable size blocks prefixes h).whole in
    let within : address + count ≤ size = inside-size address count size inside some in
    omega arith

-- a key is the one that its byte shows
abbrev key-with : (access : ℕ) (fetch_protected referenced changed : Bool) → access < 16 → Key
key-with access fetch_protected referenced changed fits =
    record { access = access; fetch_protected = fetch_protected; referenced = referenced; changed = changed; access_fits = fits }

same-key : (a b : ℕ) (f g r s c d : Bool) (x : a < 16) (y : b < 16) → a ≡ b → f ≡ g → r ≡ s → c ≡ d → key-with a f r c x ≡ key-with b g s d y
same-key a b f g r s c d x y access fetches refers changes =
    subst (λ (n : ℕ). (z : n < 16) → key-with a f r c x ≡ key-with n f r c z) access (λ z. ap (λ (h : a < 16). key-with a f r c h) (le_prop x z)) y
    ∙ ap (λ (p : Bool). key-with b p r c y) fetches ∙ ap (λ (p : Bool). key-with b g p c y) refers ∙ ap (λ (p : Bool). key-with b g s p y) changes

bit-small : (b : Bool) → bit_number b ≤ 1
bit-small true = omega arith
bit-small false = omega arith

bit-read : (n : ℕ) (b : Bool) → n ≡ bit_number b → (n == 1) ≡ b
bit-read n true e = ap (λ m. m == 1) e
bit-read n false e = ap (λ m. m == 1) e

key-back : (key : Key) → key_of_byte (byte_of key) ≡ key
key-back key =
    let byte = byte_of key in
    let f = bit-small key.fetch_protected in
    let r = bit-small key.referenced in
    let c = bit-small key.changed in
    same-key (byte / 16 % 16) key.access (byte / 8 % 2 == 1) key.fetch_protected (byte / 4 % 2 == 1) key.referenced (byte / 2 % 2 == 1) key.changed (access-lt byte) key.access_fits
    (omega (arith, key.access_fits, f, r, c)) (bit-read (byte / 8 % 2) key.fetch_protected (omega (arith, f, r, c)))
    (bit-read (byte / 4 % 2) key.referenced (omega (arith, f, r, c))) (bit-read (byte / 2 % 2) key.changed (omega (arith, f, r, c)))

-- a key that is written stands where its byte does
pub lent-key-written : (bytes keys prefixes : List ℕ) (i : ℕ) (key : Key) →
    lent_contents bytes (slice_set keys i (byte_of key)) prefixes ≡ record (lent_contents bytes keys prefixes) { keys = slice_set (map key_of_byte keys) i key }
lent-key-written bytes keys prefixes i key =
    ap (λ (ks : List Key). record (lent_contents bytes keys prefixes) { keys = ks })
    (map-set key_of_byte keys i (byte_of key) ∙ ap (λ (k : Key). slice_set (map key_of_byte keys) i k) (key-back key))

-- a key that is read is the one that its byte shows
pub lent-key-read : (keys : List ℕ) (i byte : ℕ) → slice_get keys i ≡ Some byte → slice_get (map key_of_byte keys) i ≡ Some (key_of_byte byte)
lent-key-read keys i byte e = slice_get-map key_of_byte keys i ∙ ap (option_map key_of_byte) e

pub lent-key-none : (keys : List ℕ) (i : ℕ) → slice_get keys i ≡ None → slice_get (map key_of_byte keys) i ≡ None
lent-key-none keys i e = slice_get-map key_of_byte keys i ∙ ap (option_map key_of_byte) e

-- what may be lent may be lent after a prefix is written
both-back : (a b : Bool) → IsTrue a → IsTrue b → IsTrue (a && b)
both-back true b h k = k
both-back false b h k = absurd (cc h)

all-set : (p : ℕ → Bool) (xs : List ℕ) (i x : ℕ) → IsTrue (p x) → IsTrue (list_all p xs) → IsTrue (list_all p (slice_set xs i x))
all-set p [] i x h k = k
all-set p (y ∷ ys) zero x h k = both-back (p x) (list_all p ys) h (both (p y) (list_all p ys) k).1
all-set p (y ∷ ys) (suc i) x h k = both-back (p y) (list_all p (slice_set ys i x)) (both (p y) (list_all p ys) k).0 (all-set p ys i x h (both (p y) (list_all p ys) k).1)

prefix-tells : (size prefix : ℕ) → IsPrefix size prefix → IsTrue (is_prefix size prefix)
prefix-tells size prefix k = grind (arith, nat_tests, k.0, k.1)

pub lendable-with : (size blocks : ℕ) (prefixes : List ℕ) (cpu prefix : ℕ) → IsPrefix size prefix → IsTrue (may_be_lent size blocks prefixes) →
    IsTrue (may_be_lent size blocks (slice_set prefixes cpu prefix))
lendable-with size blocks prefixes cpu prefix is h =
    let k = lendable size blocks prefixes h in
    let more = slice_set prefixes cpu prefix in
    let cpus : IsTrue (length more == 16) = ap (λ n. n == 16) (length-set prefixes cpu prefix) ∙ k.cpus in
    both-back (are_blocks size blocks) (are_areas size more) (both (are_blocks size blocks) (are_areas size prefixes) h).0
    (both-back (length more == 16) (list_all (is_prefix size) more) cpus (all-set (is_prefix size) prefixes cpu prefix (prefix-tells size prefix is) k.areas))

-- how many keys there are
pub lent-keys : (size blocks : ℕ) (prefixes : List ℕ) → IsTrue (may_be_lent size blocks prefixes) → blocks ≤ 524288
lent-keys size blocks prefixes h = most-blocks blocks (lendable size blocks prefixes h).greatest
