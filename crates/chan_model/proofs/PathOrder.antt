-- The leftmost bit of a mask is the first of its paths: of all masks of a byte, as a table.
use Rattle.std.proofs.Common.{◌≡◌, refl, sym, ◌∙◌, ap, ap₂, ℕ, suc, ◌+◌, ◌-◌, ◌*◌, ◌%◌, ◌/◌, ◌^◌, ◌<◌, ◌==◌, Bool, true, false, ◌&&◌, List, [], ◌∷◌, Option, None, Some, arith, subst, length, true≢false}
use Rattle.std.specs.Prelude.{if◌then◌else◌, nat_lt, IsSome, IfSome, ◌↔◌}
use Rattle.std.specs.Int.Count.{count_leading_zeros}
use Rattle.std.specs.Int.RustNames.{bit_and}
use Rattle.std.proofs.lemmas.Bool.{agree_below, agree_below_at, and_parts, eqb-true, eq-eqb, false_from_ne_true, lt-ltb, ltb-true}
use Rattle.chan_model.specs.PathSets.{cyclic_path, members, paths_of_mask}
use Rattle.chan_model.proofs.PathMasks.{each-below-8}

-- the path of an index, or none where there is no such path
abbrev pub path_at : ℕ → Option ℕ
path_at index = if nat_lt index 8 then Some index else None

same_path : Option ℕ → Option ℕ → Bool
same_path None None = true
same_path None (Some b) = false
same_path (Some a) None = false
same_path (Some a) (Some b) = a == b

path-equal : (a b : Option ℕ) → same_path a b ≡ true → a ≡ b
unfolding same_path
path-equal None None e = refl
path-equal None (Some b) e = absurd (true≢false (sym e))
path-equal (Some a) None e = absurd (true≢false (sym e))
path-equal (Some a) (Some b) e = ap Some (eqb-true a b e)

same_paths : List ℕ → List ℕ → Bool
same_paths [] [] = true
same_paths [] (b ∷ bs) = false
same_paths (a ∷ rest) [] = false
same_paths (a ∷ rest) (b ∷ bs) = (a == b) && same_paths rest bs

paths-equal : (xs ys : List ℕ) → same_paths xs ys ≡ true → xs ≡ ys
unfolding same_paths
paths-equal [] [] e = refl
paths-equal [] (b ∷ bs) e = absurd (true≢false (sym e))
paths-equal (a ∷ rest) [] e = absurd (true≢false (sym e))
paths-equal (a ∷ rest) (b ∷ bs) e = let both = and_parts (a == b) (same_paths rest bs) e in ap₂ (λ (x : ℕ) (xs : List ℕ). x ∷ xs) (eqb-true a b both.0) (paths-equal rest bs both.1)

-- a test of each mask of a byte, by blocks of 32
abbrev IsTrueIn : (ℕ → Bool) → ℕ → Type 0
IsTrueIn test block = agree_below (λ index. test (32 * block + index)) (λ index. true) 32 ≡ true

every-byte : (test : ℕ → Bool) → ((block : ℕ) → block < 8 → IsTrueIn test block) → (byte : ℕ) → byte < 256 → test byte ≡ true
every-byte test blocks byte fits =
    let block : byte / 32 < 8 = omega (arith, fits) in
    let parts : 32 * (byte / 32) + byte % 32 ≡ byte = omega arith in
    ap test (sym parts) ∙ agree_below_at (λ index. test (32 * (byte / 32) + index)) (λ index. true) 32 (byte % 32) (blocks (byte / 32) block) (omega arith)

-- the bits of a path and of those that follow it, or all where none of these is one
abbrev pub later_or_all : ℕ → ℕ → ℕ
later_or_all mask first = if bit_and mask (255 / 2 ^ first) == 0 then mask else bit_and mask (255 / 2 ^ first)

abbrev is_first : ℕ → ℕ → Bool
is_first first mask = same_path (path_at (count_leading_zeros 8 (later_or_all mask first))) (cyclic_path (paths_of_mask mask) 8 first)

all-first : (first : ℕ) → first < 8 → (block : ℕ) → block < 8 → IsTrueIn (is_first first) block
unfolding count_leading_zeros same_path
all-first first small block under =
    each-below-8 (λ first. IsTrueIn (is_first first) block)
    (each-below-8 (IsTrueIn (is_first 0)) refl refl refl refl refl refl refl refl block under)
    (each-below-8 (IsTrueIn (is_first 1)) refl refl refl refl refl refl refl refl block under)
    (each-below-8 (IsTrueIn (is_first 2)) refl refl refl refl refl refl refl refl block under)
    (each-below-8 (IsTrueIn (is_first 3)) refl refl refl refl refl refl refl refl block under)
    (each-below-8 (IsTrueIn (is_first 4)) refl refl refl refl refl refl refl refl block under)
    (each-below-8 (IsTrueIn (is_first 5)) refl refl refl refl refl refl refl refl block under)
    (each-below-8 (IsTrueIn (is_first 6)) refl refl refl refl refl refl refl refl block under)
    (each-below-8 (IsTrueIn (is_first 7)) refl refl refl refl refl refl refl refl block under)
    first small

pub first-is : (mask first : ℕ) → mask < 256 → first < 8 → path_at (count_leading_zeros 8 (later_or_all mask first)) ≡ cyclic_path (paths_of_mask mask) 8 first
first-is mask first fits small =
    path-equal _ _ (every-byte (is_first first) (all-first first small) mask fits)

on-at : (index : ℕ) → index < 8 → nat_lt index 8 ≡ true
on-at index small = lt-ltb index 8 small

off-at : (index : ℕ) → (IsSome {T = ℕ} None ↔ (index < 8)) → nat_lt index 8 ≡ false
off-at index found = false_from_ne_true (nat_lt index 8) (λ e. true≢false (sym (found.1 (ltb-true index 8 e))))

pub path-made : (path : Option ℕ) (index : ℕ) → (IsSome path ↔ (index < 8)) → IfSome path (λ p. p ≡ index) → path ≡ path_at index
path-made None index found same = ap (λ (b : Bool). if b then Some index else None) (sym (off-at index found))
path-made (Some path) index found same = ap Some same ∙ ap (λ (b : Bool). if b then Some index else None) (sym (on-at index (found.0 refl)))

pub later-is : (mask first : ℕ) → (bit_and mask (255 / 2 ^ first) ≡ 0 → ⊥) → later_or_all mask first ≡ bit_and mask (255 / 2 ^ first)
later-is mask first some =
    let later = bit_and mask (255 / 2 ^ first) in
    ap (λ (b : Bool). if b then mask else later) (false_from_ne_true (later == 0) (λ e. some (eqb-true later 0 e)))

pub all-is : (mask first : ℕ) → bit_and mask (255 / 2 ^ first) ≡ 0 → later_or_all mask first ≡ mask
all-is mask first none =
    let later = bit_and mask (255 / 2 ^ first) in
    ap (λ (b : Bool). if b then mask else later) (eq-eqb later 0 none)

-- the path of the leftmost bit is the first member, and those that follow it are the members without it
abbrev without_path : ℕ → ℕ → ℕ
without_path mask path = bit_and mask (255 - 128 / 2 ^ path)

abbrev is_member_first : ℕ → Bool
is_member_first mask =
    let path = count_leading_zeros 8 mask in
    if nat_lt path 8 then same_paths (members (paths_of_mask mask)) (path ∷ members (paths_of_mask (without_path mask path))) else true

all-members : (block : ℕ) → block < 8 → IsTrueIn is_member_first block
unfolding count_leading_zeros same_paths
all-members block under = each-below-8 (IsTrueIn is_member_first) refl refl refl refl refl refl refl refl block under

pub member-first : (mask path : ℕ) → mask < 256 → path ≡ count_leading_zeros 8 mask → path < 8 → members (paths_of_mask mask) ≡ path ∷ members (paths_of_mask (bit_and mask (255 - 128 / 2 ^ path)))
member-first mask path fits is small =
    let least = count_leading_zeros 8 mask in
    let lists : Bool = same_paths (members (paths_of_mask mask)) (least ∷ members (paths_of_mask (without_path mask least))) in
    let under : nat_lt least 8 ≡ true = lt-ltb least 8 (subst (λ (p : ℕ). p < 8) is small) in
    let same : lists ≡ true = sym (ap (λ (b : Bool). if b then lists else true) under) ∙ every-byte is_member_first all-members mask fits in
    subst (λ (p : ℕ). members (paths_of_mask mask) ≡ p ∷ members (paths_of_mask (without_path mask p))) (sym is) (paths-equal _ _ same)

pub fewer : (paths rest : List ℕ) (path : ℕ) → paths ≡ path ∷ rest → length rest < length paths
fewer paths rest path is = let longer : length paths ≡ suc (length rest) = ap length is in omega (arith, longer)
