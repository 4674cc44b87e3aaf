-- Word 2 of a subchannel-information block, as it stands in storage after STORE SUBCHANNEL by a CPU whose prefix is zero.
use Rattle.std.proofs.Common.{◌≡◌, refl, sym, ◌∙◌, ap, subst, arith, lit<, ℕ, zero, suc, ◌+◌, ◌^◌, ◌<◌, ◌≤◌, Bool, true, false, ◌||◌, ◌==◌, Option, None, Some, Ok, Err, List, [], ◌∷◌, length, map, set, get_or}
use Rattle.std.specs.Prelude.{nat_lt, nat_le, slice_index, slice_set, slice_range, if◌then◌else◌}
use Rattle.std.specs.List.{range_with_len}
use Rattle.std.proofs.lemmas.Bool.{eq-eqb}
use Rattle.std.proofs.lemmas.Bool.Decides.{nat_tests}
use Rattle.std.proofs.lemmas.List.{get_or-set_other, get_or-set_same, length-set}
use Rattle.std.proofs.Math.Nat.{div-le_self}
use Rattle.byteorder.specs.Endian.{big_number}
use Rattle.zbits.specs.Bits.{field_of}
use Rattle.zbits.specs.Layout.{AllFit, ShowsFields, bit_number, image_of, word_of}
use Rattle.zbits.proofs.LayoutLemmas.{bit_number-lt, shows_word_of, word_of-lt}
use Rattle.zbits.proofs.OneImage.{big_number-big_bytes}
use Rattle.storage_keys.specs.declared.StorageFault.TheVariants.{Addressing}
use Rattle.storage_keys.specs.Storage.{Contents, absolute_under, absolute, absolute_addresses, operand_stored, shown, with_values}
use Rattle.storage_keys.proofs.OperandLemmas.{map-slice_index-range}
use Rattle.schib_block.specs.declared.schib.Schib.{Schib}
use Rattle.schib_block.specs.SchibTable.{schib_tables, word_2}
use Rattle.chan_model.specs.PathSets.{has_path, mask_of_path, mask_of_paths, path_bit, is_member}
use Rattle.subchannel_model.specs.declared.state.Subchannel.{Subchannel}
use Rattle.subchannel_model.specs.Store.{installed_paths, pmcw_of, schib_of}

-- real addresses under a zero prefix
zero-absolute : (real : ℕ) → absolute_under 0 real ≡ real
zero-absolute real = grind (arith, nat_tests)

indices-row : (s : Contents) (cpu address n : ℕ) → slice_index s.prefixes cpu ≡ 0 → absolute_addresses s cpu address n ≡ range_with_len address n
unfolding absolute_addresses
indices-row s cpu address zero e = refl
indices-row s cpu address (suc n) e =
    ap (λ (x : ℕ). x ∷ map (absolute s cpu) (range_with_len (address + 1) n)) (ap (λ (p : ℕ). absolute_under p address) e ∙ zero-absolute address)
    ∙ ap (λ (xs : List ℕ). address ∷ xs) (indices-row s cpu (address + 1) n e)

-- values that are stored in a row
before-stays : (vs bytes : List ℕ) (a index : ℕ) → index < a → get_or (with_values bytes (range_with_len a (length vs)) vs) index 0 ≡ get_or bytes index 0
before-stays [] bytes a index l = refl
before-stays (v ∷ vs) bytes a index l =
    before-stays vs (set bytes a v) (a + 1) index (omega (arith, l)) ∙ get_or-set_other bytes a index v 0 (λ same. omega (arith, l, same))

row-placed : (vs bytes : List ℕ) (a i : ℕ) → a + i < length bytes → i < length vs → get_or (with_values bytes (range_with_len a (length vs)) vs) (a + i) 0 ≡ get_or vs i 0
row-placed [] bytes a i within below = absurd (omega (arith, below))
row-placed (v ∷ vs) bytes a zero within below =
    let e : a + 0 ≡ a = omega arith in
    ap (λ (k : ℕ). get_or (with_values (set bytes a v) (range_with_len (a + 1) (length vs)) vs) k 0) e
    ∙ before-stays vs (set bytes a v) (a + 1) a (omega arith)
    ∙ get_or-set_same bytes a v 0 (omega (arith, within))
row-placed (v ∷ vs) bytes a (suc i) within below =
    let e : a + suc i ≡ a + 1 + i = omega arith in
    let inside : a + 1 + i < length (set bytes a v) = omega (arith, within, length-set bytes a v) in
    ap (λ (k : ℕ). get_or (with_values (set bytes a v) (range_with_len (a + 1) (length vs)) vs) k 0) e
    ∙ row-placed vs (set bytes a v) (a + 1) i inside (omega (arith, below))

-- what is shown is in storage
shown-inside : (bytes found : List ℕ) (address : ℕ) (inside : Bool) → (4 == 0 || nat_le (address + 4) (length bytes)) ≡ inside →
    (if inside then Ok (slice_range bytes address (address + 4)) else Err Addressing) ≡ Ok found →
    (address + 4 ≤ length bytes) × (found ≡ map (slice_index bytes) (range_with_len address 4))
shown-inside bytes found address true e ok =
    let within : address + 4 ≤ length bytes = grind (arith, nat_tests) in
    let same : slice_range bytes address (address + 4) ≡ found = cc ok in
    (within, sym same ∙ sym (map-slice_index-range bytes address 4 (λ _. within)))
shown-inside bytes found address false e ok = absurd (cc ok)

-- four of the values in a row
at-placed : (vs bytes : List ℕ) (a i index : ℕ) → index ≡ a + i → index < length bytes → i < length vs →
    slice_index (with_values bytes (range_with_len a (length vs)) vs) index ≡ slice_index vs i
at-placed vs bytes a i index e within below =
    ap (λ (k : ℕ). get_or (with_values bytes (range_with_len a (length vs)) vs) k 0) e ∙ row-placed vs bytes a i (omega (arith, e, within)) below

four-placed : (vs bytes found : List ℕ) (a k : ℕ) → a + k + 4 ≤ length bytes → k + 4 ≤ length vs →
    found ≡ map (slice_index (with_values bytes (range_with_len a (length vs)) vs)) (range_with_len (a + k) 4) →
    found ≡ slice_index vs k ∷ slice_index vs (k + 1) ∷ slice_index vs (k + 2) ∷ slice_index vs (k + 3) ∷ []
four-placed vs bytes found a k within long e =
    let new : List ℕ = with_values bytes (range_with_len a (length vs)) vs in
    let p0 : slice_index new (a + k) ≡ slice_index vs k = at-placed vs bytes a k (a + k) refl (omega arith) (omega arith) in
    let p1 : slice_index new (a + k + 1) ≡ slice_index vs (k + 1) = at-placed vs bytes a (k + 1) (a + k + 1) (omega arith) (omega arith) (omega arith) in
    let p2 : slice_index new (a + k + 1 + 1) ≡ slice_index vs (k + 2) = at-placed vs bytes a (k + 2) (a + k + 1 + 1) (omega arith) (omega arith) (omega arith) in
    let p3 : slice_index new (a + k + 1 + 1 + 1) ≡ slice_index vs (k + 3) = at-placed vs bytes a (k + 3) (a + k + 1 + 1 + 1) (omega arith) (omega arith) (omega arith) in
    cc

-- the word that is shown
length-with : (bytes ps vs : List ℕ) → length (with_values bytes ps vs) ≡ length bytes
length-with bytes [] vs = refl
length-with bytes (p ∷ ps) [] = refl
length-with bytes (p ∷ ps) (v ∷ vs) = length-with (set bytes p v) ps vs ∙ length-set bytes p v

long-schib : (schib : Schib) → 12 ≤ length (image_of (schib_tables schib))
long-schib schib = lit< tt

shown-four : (s : Contents) (cpu address : ℕ) (vs found : List ℕ) → slice_index s.prefixes cpu ≡ 0 → 12 ≤ length vs →
    shown (operand_stored s cpu address vs) (address + 8) 4 ≡ Ok found → found ≡ slice_index vs 8 ∷ slice_index vs 9 ∷ slice_index vs 10 ∷ slice_index vs 11 ∷ []
shown-four s cpu address vs found zeroed long ok =
    let new : List ℕ = with_values s.bytes (range_with_len address (length vs)) vs in
    let row : with_values s.bytes (absolute_addresses s cpu address (length vs)) vs ≡ new = ap (λ (ps : List ℕ). with_values s.bytes ps vs) (indices-row s cpu address (length vs) zeroed) in
    let is = shown-inside new found (address + 8) (4 == 0 || nat_le (address + 8 + 4) (length new)) refl
    (subst (λ (bytes : List ℕ). (if 4 == 0 || nat_le (address + 8 + 4) (length bytes) then Ok (slice_range bytes (address + 8) (address + 8 + 4)) else Err Addressing) ≡ Ok found) row ok) in
    four-placed vs s.bytes found address 8 (subst (λ (n : ℕ). address + 8 + 4 ≤ n) (length-with s.bytes (range_with_len address (length vs)) vs) is.0) long is.1

-- the masks are bytes
mask-below : (set : List Bool) → mask_of_paths set < 256
mask-below set =
    let b : (p : ℕ) → path_bit set p < 2 = λ p. bit_number-lt (Rattle.std.specs.Prelude.slice_index_or set p false) in
    omega (arith, b 0, b 1, b 2, b 3, b 4, b 5, b 6, b 7)

path-below : (o : Option ℕ) → mask_of_path o < 256
path-below None = lit< tt
path-below (Some p) = omega (arith, div-le_self 128 (2 ^ p))

-- a word of four bytes
pub shown-word : (s : Contents) (cpu address word : ℕ) (schib : Schib) (found : List ℕ) → slice_index s.prefixes cpu ≡ 0 → AllFit (word_2 schib.pmcw) →
    shown (operand_stored s cpu address (image_of (schib_tables schib))) (address + 8) 4 ≡ Ok found → word ≡ big_number 4 found → ShowsFields word (word_2 schib.pmcw)
shown-word s cpu address word schib found zeroed fit ok e =
    let t = word_2 schib.pmcw in
    let four = shown-four s cpu address (image_of (schib_tables schib)) found zeroed (long-schib schib) ok in
    let is : word ≡ word_of t = e ∙ ap (λ (xs : List ℕ). big_number 4 xs) four ∙ big_number-big_bytes (word_of t) [] (word_of-lt 0 t refl fit) in
    subst (λ (w : ℕ). ShowsFields w t) (sym is) (shows_word_of t refl fit)

-- the masks of a subchannel
masks-fit : (sub : Subchannel) → AllFit (word_2 (pmcw_of sub))
masks-fit sub = (
  mask-below sub.state.pmcw.logical,
  (mask-below sub.state.pmcw.not_operational, (path-below sub.state.pmcw.last_used, (mask-below (installed_paths sub), tt))),
)

pub shows-masks : (s : Contents) (cpu address word : ℕ) (sub : Subchannel) (found : List ℕ) → slice_index s.prefixes cpu ≡ 0 →
    shown (operand_stored s cpu address (image_of (schib_tables (schib_of sub)))) (address + 8) 4 ≡ Ok found → word ≡ big_number 4 found →
    (field_of word 0 7 ≡ mask_of_paths sub.state.pmcw.logical) × (field_of word 16 23 ≡ mask_of_path sub.state.pmcw.last_used)
shows-masks s cpu address word sub found zeroed ok e =
    let fields = shown-word s cpu address word (schib_of sub) found zeroed (masks-fit sub) ok e in (fields.0, fields.1.1.0)

-- a path of a set is in its mask
pub member-masked : (set : List Bool) (path : ℕ) → path < 8 → is_member set path ≡ true → has_path (mask_of_paths set) path ≡ true
member-masked set path below e = by path below (ap bit_number e)
  where
    b : (p : ℕ) → path_bit set p < 2
    b p = bit_number-lt (Rattle.std.specs.Prelude.slice_index_or set p false)

    is : (n : ℕ) → n ≡ 1 → (n == 1) ≡ true
    is n h = eq-eqb n 1 h

    by : (p : ℕ) → p < 8 → path_bit set p ≡ 1 → has_path (mask_of_paths set) p ≡ true
    by zero l h = is _ (omega (arith, h, b 1, b 2, b 3, b 4, b 5, b 6, b 7))
    by (suc zero) l h = is _ (omega (arith, h, b 0, b 2, b 3, b 4, b 5, b 6, b 7))
    by (suc (suc zero)) l h = is _ (omega (arith, h, b 0, b 1, b 3, b 4, b 5, b 6, b 7))
    by (suc (suc (suc zero))) l h = is _ (omega (arith, h, b 0, b 1, b 2, b 4, b 5, b 6, b 7))
    by (suc (suc (suc (suc zero)))) l h = is _ (omega (arith, h, b 0, b 1, b 2, b 3, b 5, b 6, b 7))
    by (suc (suc (suc (suc (suc zero))))) l h = is _ (omega (arith, h, b 0, b 1, b 2, b 3, b 4, b 6, b 7))
    by (suc (suc (suc (suc (suc (suc zero)))))) l h = is _ (omega (arith, h, b 0, b 1, b 2, b 3, b 4, b 5, b 7))
    by (suc (suc (suc (suc (suc (suc (suc zero))))))) l h = is _ (omega (arith, h, b 0, b 1, b 2, b 3, b 4, b 5, b 6))
    by (suc (suc (suc (suc (suc (suc (suc (suc p)))))))) l h = absurd (omega (arith, l))
