-- Fields and flags of a word after masks, and tests under masks.
use Rattle.std.proofs.Common.{◌≡◌, ℕ, zero, suc, ◌+◌, ◌-◌, ◌*◌, ◌/◌, ◌%◌, ◌^◌, ◌<◌, ◌==◌, min, max, Bool, true, false, not, ◌&&◌, ◌||◌, List, [], ◌∷◌, refl, sym, ap, ◌∙◌, arith, eqb-true, eq-eqb}
use Rattle.std.specs.Prelude.{if◌then◌else◌}
use Rattle.std.specs.Int.{bit_at}
use Rattle.std.specs.Int.RustNames.{bit_and, bit_or}
use Rattle.std.proofs.lemmas.Nat.{pow_pos, mod-pow-add, and_shr, and_mod, or_shr, or_mod, and_mask, and_comm, or_comm, and_le_l, and_le_r, mod_below, same_from_place}
use Rattle.std.proofs.lemmas.Nat.Bits.{bit_at_and, bit_at_or, bit_at_not, bit_at-lt, bit_at-zero}
use Rattle.std.proofs.lemmas.Bool.{eqb-false, ne_eqb}
use Rattle.std.proofs.Math.Nat.{mod-eq_of_lt, mod-one}
use Rattle.std.specs.Int.{w32, bit_not}
use Rattle.zbits.specs.Bits.{field_of, weight}
use Rattle.zbits.specs.Flags.{all_of, changed_flag, flag_of, flags_of, matched, pick, picked, signed, some_of}

-- a field of an `and` and of an `or`
pub field-and : (a b first last : ℕ) → field_of (bit_and a b) first last ≡ bit_and (field_of a first last) (field_of b first last)
field-and a b first last =
    ap (λ (x : ℕ). x % 2 ^ (last + 1 - first)) (and_shr a b (31 - last)) ∙ and_mod (a / weight last) (b / weight last) (last + 1 - first)

pub field-or : (a b first last : ℕ) → field_of (bit_or a b) first last ≡ bit_or (field_of a first last) (field_of b first last)
field-or a b first last =
    ap (λ (x : ℕ). x % 2 ^ (last + 1 - first)) (or_shr a b (31 - last)) ∙ or_mod (a / weight last) (b / weight last) (last + 1 - first)

-- a field of a word made of two: it is of the first where its bits are in `keep` alone, of the second where they are in `take` alone
field-join : (a b keep take first last : ℕ) → field_of (bit_or (bit_and a keep) (bit_and b take)) first last
    ≡ bit_or (bit_and (field_of a first last) (field_of keep first last)) (bit_and (field_of b first last) (field_of take first last))
field-join a b keep take first last =
    field-or (bit_and a keep) (bit_and b take) first last
    ∙ ap (λ (x : ℕ). bit_or x (field_of (bit_and b take) first last)) (field-and a keep first last)
    ∙ ap (bit_or (bit_and (field_of a first last) (field_of keep first last))) (field-and b take first last)

whole : (a first last : ℕ) → bit_and (field_of a first last) (2 ^ (last + 1 - first) - 1) ≡ field_of a first last
whole a first last =
    let k = last + 1 - first in
    and_mask (field_of a first last) k ∙ mod-eq_of_lt (mod_below (a / weight last) (2 ^ k) (pow_pos k))

pub field-kept : (a b keep take first last : ℕ) → field_of keep first last ≡ 2 ^ (last + 1 - first) - 1 → field_of take first last ≡ 0
    → field_of (bit_or (bit_and a keep) (bit_and b take)) first last ≡ field_of a first last
field-kept a b keep take first last k t =
    let x = field_of a first last in
    let y = field_of b first last in
    field-join a b keep take first last
    ∙ ap (λ (m : ℕ). bit_or (bit_and x m) (bit_and y (field_of take first last))) k
    ∙ ap (λ (m : ℕ). bit_or (bit_and x (2 ^ (last + 1 - first) - 1)) (bit_and y m)) t
    ∙ ap (bit_or (bit_and x (2 ^ (last + 1 - first) - 1))) (and_comm y 0)
    ∙ or_comm (bit_and x (2 ^ (last + 1 - first) - 1)) 0
    ∙ whole a first last

pub field-taken : (a b keep take first last : ℕ) → field_of keep first last ≡ 0 → field_of take first last ≡ 2 ^ (last + 1 - first) - 1
    → field_of (bit_or (bit_and a keep) (bit_and b take)) first last ≡ field_of b first last
field-taken a b keep take first last k t =
    let x = field_of a first last in
    let y = field_of b first last in
    field-join a b keep take first last
    ∙ ap (λ (m : ℕ). bit_or (bit_and x m) (bit_and y (field_of take first last))) k
    ∙ ap (λ (m : ℕ). bit_or (bit_and x 0) (bit_and y m)) t
    ∙ ap (λ (m : ℕ). bit_or m (bit_and y (2 ^ (last + 1 - first) - 1))) (and_comm x 0)
    ∙ whole b first last

-- the same of a word that is cleared by a mask and in which bits are set
pub field-stays : (a keep set first last : ℕ) → field_of keep first last ≡ 2 ^ (last + 1 - first) - 1 → field_of set first last ≡ 0
    → field_of (bit_or (bit_and a keep) set) first last ≡ field_of a first last
field-stays a keep set first last k t =
    let x = field_of a first last in
    field-or (bit_and a keep) set first last
    ∙ ap (bit_or (field_of (bit_and a keep) first last)) t
    ∙ or_comm (field_of (bit_and a keep) first last) 0
    ∙ field-and a keep first last
    ∙ ap (bit_and x) k
    ∙ whole a first last

pub field-set : (a keep set first last : ℕ) → field_of keep first last ≡ 0 → field_of (bit_or (bit_and a keep) set) first last ≡ field_of set first last
field-set a keep set first last k =
    let x = field_of a first last in
    field-or (bit_and a keep) set first last
    ∙ ap (λ (m : ℕ). bit_or m (field_of set first last)) (field-and a keep first last ∙ ap (bit_and x) k ∙ and_comm x 0)

-- a field of a word under a mask alone, and of one in which bits are set alone
pub field-left : (a keep first last : ℕ) → field_of keep first last ≡ 2 ^ (last + 1 - first) - 1 → field_of (bit_and a keep) first last ≡ field_of a first last
field-left a keep first last k = field-and a keep first last ∙ ap (bit_and (field_of a first last)) k ∙ whole a first last

pub field-cleared : (a keep first last : ℕ) → field_of keep first last ≡ 0 → field_of (bit_and a keep) first last ≡ 0
field-cleared a keep first last k = field-and a keep first last ∙ ap (bit_and (field_of a first last)) k ∙ and_comm (field_of a first last) 0

pub field-unset : (a set first last : ℕ) → field_of set first last ≡ 0 → field_of (bit_or a set) first last ≡ field_of a first last
field-unset a set first last s = field-or a set first last ∙ ap (bit_or (field_of a first last)) s ∙ or_comm (field_of a first last) 0

pub field-or-set : (a set first last : ℕ) → field_of a first last ≡ 0 → field_of (bit_or a set) first last ≡ field_of set first last
field-or-set a set first last s = field-or a set first last ∙ ap (λ (n : ℕ). bit_or n (field_of set first last)) s

-- where both the word and what is set have zeros
pub field-zero : (a keep set first last : ℕ) → field_of a first last ≡ 0 → field_of set first last ≡ 0 → field_of (bit_or (bit_and a keep) set) first last ≡ 0
field-zero a keep set first last x s =
    field-or (bit_and a keep) set first last
    ∙ ap (bit_or (field_of (bit_and a keep) first last)) s
    ∙ or_comm (field_of (bit_and a keep) first last) 0
    ∙ field-and a keep first last
    ∙ ap (λ (m : ℕ). bit_and m (field_of keep first last)) x

-- one flag of a word that is cleared by one mask and set by another
three-bits : (a c s : ℕ) → a < 2 → c < 2 → s < 2 → (max (min a (1 - c)) s == 1) ≡ (if s == 1 then true else (if c == 1 then false else a == 1))
three-bits zero zero zero x y z = refl
three-bits zero zero (suc zero) x y z = refl
three-bits zero (suc zero) zero x y z = refl
three-bits zero (suc zero) (suc zero) x y z = refl
three-bits (suc zero) zero zero x y z = refl
three-bits (suc zero) zero (suc zero) x y z = refl
three-bits (suc zero) (suc zero) zero x y z = refl
three-bits (suc zero) (suc zero) (suc zero) x y z = refl
three-bits (suc (suc a)) c s x y z = absurd (omega (arith, x))
three-bits zero (suc (suc c)) s x y z = absurd (omega (arith, y))
three-bits (suc zero) (suc (suc c)) s x y z = absurd (omega (arith, y))
three-bits zero zero (suc (suc s)) x y z = absurd (omega (arith, z))
three-bits zero (suc zero) (suc (suc s)) x y z = absurd (omega (arith, z))
three-bits (suc zero) zero (suc (suc s)) x y z = absurd (omega (arith, z))
three-bits (suc zero) (suc zero) (suc (suc s)) x y z = absurd (omega (arith, z))

pub flag-changed : (word clear set bit : ℕ) → clear < 2 ^ 32
    → flag_of (bit_or (bit_and word (bit_not w32 clear)) set) bit ≡ changed_flag clear set bit (flag_of word bit)
flag-changed word clear set bit fits =
    let i = 31 - bit in
    let below : i < 32 = omega arith in
    ap (λ (x : ℕ). x == 1) (bit_at_or (bit_and word (bit_not w32 clear)) set i
    ∙ ap (λ (x : ℕ). max x (bit_at set i)) (bit_at_and word (bit_not w32 clear) i
    ∙ ap (min (bit_at word i)) (bit_at_not w32 clear i fits below)))
    ∙ three-bits (bit_at word i) (bit_at clear i) (bit_at set i) (bit_at-lt word i) (bit_at-lt clear i) (bit_at-lt set i)

-- one flag of a word of which a mask is kept, and the rest is of another
two-words : (a b k : ℕ) → a < 2 → b < 2 → k < 2 → (max (min a k) (min b (1 - k)) == 1) ≡ (if k == 1 then a == 1 else b == 1)
two-words zero zero zero x y z = refl
two-words zero zero (suc zero) x y z = refl
two-words zero (suc zero) zero x y z = refl
two-words zero (suc zero) (suc zero) x y z = refl
two-words (suc zero) zero zero x y z = refl
two-words (suc zero) zero (suc zero) x y z = refl
two-words (suc zero) (suc zero) zero x y z = refl
two-words (suc zero) (suc zero) (suc zero) x y z = refl
two-words (suc (suc a)) b k x y z = absurd (omega (arith, x))
two-words zero (suc (suc b)) k x y z = absurd (omega (arith, y))
two-words (suc zero) (suc (suc b)) k x y z = absurd (omega (arith, y))
two-words zero zero (suc (suc k)) x y z = absurd (omega (arith, z))
two-words zero (suc zero) (suc (suc k)) x y z = absurd (omega (arith, z))
two-words (suc zero) zero (suc (suc k)) x y z = absurd (omega (arith, z))
two-words (suc zero) (suc zero) (suc (suc k)) x y z = absurd (omega (arith, z))

pub flag-chosen : (a b keep bit : ℕ) → keep < 2 ^ 32
    → flag_of (bit_or (bit_and a keep) (bit_and b (bit_not w32 keep))) bit ≡ (if flag_of keep bit then flag_of a bit else flag_of b bit)
flag-chosen a b keep bit fits =
    let i = 31 - bit in
    let below : i < 32 = omega arith in
    ap (λ (x : ℕ). x == 1) (bit_at_or (bit_and a keep) (bit_and b (bit_not w32 keep)) i
    ∙ ap (λ (x : ℕ). max x (bit_at (bit_and b (bit_not w32 keep)) i)) (bit_at_and a keep i)
    ∙ ap (λ (x : ℕ). max (min (bit_at a i) (bit_at keep i)) x) (bit_at_and b (bit_not w32 keep) i ∙ ap (min (bit_at b i)) (bit_at_not w32 keep i fits below)))
    ∙ two-words (bit_at a i) (bit_at b i) (bit_at keep i) (bit_at-lt a i) (bit_at-lt b i) (bit_at-lt keep i)

-- where both words have zeros, whatever is kept
pub field-none : (a b keep take first last : ℕ) → field_of a first last ≡ 0 → field_of b first last ≡ 0
    → field_of (bit_or (bit_and a keep) (bit_and b take)) first last ≡ 0
field-none a b keep take first last x y =
    field-join a b keep take first last
    ∙ ap (λ (n : ℕ). bit_or (bit_and n (field_of keep first last)) (bit_and (field_of b first last) (field_of take first last))) x
    ∙ ap (λ (n : ℕ). bit_or (bit_and 0 (field_of keep first last)) (bit_and n (field_of take first last))) y

-- ---- tests under a mask
-- the same conjunction and disjunction, with no case for one flag
abbrev all-from : List Bool → Bool
all-from [] = true
all-from (flag ∷ flags) = flag && all-from flags

abbrev or-from : List Bool → Bool
or-from [] = false
or-from (flag ∷ flags) = flag || or-from flags

and-true : (b : Bool) → (b && true) ≡ b
and-true true = refl
and-true false = refl

or-false : (b : Bool) → (b || false) ≡ b
or-false true = refl
or-false false = refl

all_of-is : (flags : List Bool) → all_of flags ≡ all-from flags
all_of-is [] = refl
all_of-is (f ∷ []) = sym (and-true f)
all_of-is (f ∷ g ∷ flags) = ap (λ (b : Bool). f && b) (all_of-is (g ∷ flags))

some_of-is : (flags : List Bool) → some_of flags ≡ or-from flags
some_of-is [] = refl
some_of-is (f ∷ []) = sym (or-false f)
some_of-is (f ∷ g ∷ flags) = ap (λ (b : Bool). f || b) (some_of-is (g ∷ flags))

-- two numbers by their highest digit and the rest
same-digits : (u v r s w : ℕ) → r < w → s < w → (u * w + r == v * w + s) ≡ ((u == v) && (r == s))
same-digits u v r s w a b =
    elim (u == v) as (λ t. u == v ≡ t → (u * w + r == v * w + s) ≡ (t && (r == s))) [
      | true ↦ λ top. elim (r == s) as (λ t. r == s ≡ t → (u * w + r == v * w + s) ≡ (true && t)) [
        | true ↦ λ low. eq-eqb (u * w + r) (v * w + s) (ap (λ (x : ℕ). x * w + r) (eqb-true u v top) ∙ ap (λ (x : ℕ). v * w + x) (eqb-true r s low))
        | false ↦ λ low. ne_eqb (u * w + r) (v * w + s) (λ e. eqb-false r s low (same_from_place u r v s w a b e).1)
      ] refl
      | false ↦ λ top. ne_eqb (u * w + r) (v * w + s) (λ e. eqb-false u v top (same_from_place u r v s w a b e).0)
    ] refl

same-more : (x y m : ℕ) → (x % 2 ^ suc m == y % 2 ^ suc m) ≡ ((bit_at x m == bit_at y m) && (x % 2 ^ m == y % 2 ^ m))
same-more x y m =
    let e : suc m ≡ 1 + m = omega arith in
    ap (λ (k : ℕ). x % 2 ^ k == y % 2 ^ k) e
    ∙ ap (λ (z : ℕ). z == y % 2 ^ (1 + m)) (mod-pow-add x 1 m)
    ∙ ap (λ (z : ℕ). bit_at x m * 2 ^ m + x % 2 ^ m == z) (mod-pow-add y 1 m)
    ∙ same-digits (bit_at x m) (bit_at y m) (x % 2 ^ m) (y % 2 ^ m) (2 ^ m) (mod_below x (2 ^ m) (pow_pos m)) (mod_below y (2 ^ m) (pow_pos m))

one-more : (a k p : ℕ) (rest : Bool) (flags : List Bool) → a < 2 → k < 2 → p < 2 → min k p ≡ p → rest ≡ all-from flags
    → ((min a k == p) && rest) ≡ all-from (pick (k == 1) (signed (p == 1) (a == 1)) flags)
one-more zero zero zero rest flags x y z w h = h
one-more zero zero (suc zero) rest flags x y z w h = absurd (omega (arith, w))
one-more zero (suc zero) zero rest flags x y z w h = h
one-more zero (suc zero) (suc zero) rest flags x y z w h = refl
one-more (suc zero) zero zero rest flags x y z w h = h
one-more (suc zero) zero (suc zero) rest flags x y z w h = absurd (omega (arith, w))
one-more (suc zero) (suc zero) zero rest flags x y z w h = refl
one-more (suc zero) (suc zero) (suc zero) rest flags x y z w h = h
one-more (suc (suc a)) k p rest flags x y z w h = absurd (omega (arith, x))
one-more zero (suc (suc k)) p rest flags x y z w h = absurd (omega (arith, y))
one-more (suc zero) (suc (suc k)) p rest flags x y z w h = absurd (omega (arith, y))
one-more zero zero (suc (suc p)) rest flags x y z w h = absurd (omega (arith, z))
one-more zero (suc zero) (suc (suc p)) rest flags x y z w h = absurd (omega (arith, z))
one-more (suc zero) zero (suc (suc p)) rest flags x y z w h = absurd (omega (arith, z))
one-more (suc zero) (suc zero) (suc (suc p)) rest flags x y z w h = absurd (omega (arith, z))

shows-from : (word mask pattern bit n : ℕ) → bit + n ≡ 32 → bit_and mask pattern ≡ pattern
    → (bit_and word mask % 2 ^ n == pattern % 2 ^ n) ≡ all-from (matched mask pattern bit (flags_of word bit n))
shows-from word mask pattern bit zero e within =
    ap (λ (x : ℕ). x == pattern % 1) (mod-one (bit_and word mask)) ∙ ap (λ (x : ℕ). 0 == x) (mod-one pattern)
shows-from word mask pattern bit (suc m) e within =
    let i : 31 - bit ≡ m = omega (arith, e) in
    let p : min (bit_at mask m) (bit_at pattern m) ≡ bit_at pattern m = sym (bit_at_and mask pattern m) ∙ ap (λ (x : ℕ). bit_at x m) within in
    same-more (bit_and word mask) pattern m
    ∙ ap (λ (x : ℕ). (x == bit_at pattern m) && (bit_and word mask % 2 ^ m == pattern % 2 ^ m)) (bit_at_and word mask m)
    ∙ one-more (bit_at word m) (bit_at mask m) (bit_at pattern m) _ (matched mask pattern (bit + 1) (flags_of word (bit + 1) m))
    (bit_at-lt word m) (bit_at-lt mask m) (bit_at-lt pattern m) p (shows-from word mask pattern (bit + 1) m (omega (arith, e)) within)
    ∙ ap (λ (x : ℕ). all-from (pick (bit_at mask x == 1) (signed (bit_at pattern x == 1) (bit_at word x == 1)) (matched mask pattern (bit + 1) (flags_of word (bit + 1) m)))) (sym i)

-- a word under a mask is a pattern where each flag of the mask is as in the pattern
pub shows : (word mask pattern bit n : ℕ) → bit + n ≡ 32 → mask < 2 ^ n → bit_and mask pattern ≡ pattern
    → (bit_and word mask == pattern) ≡ all_of (matched mask pattern bit (flags_of word bit n))
shows word mask pattern bit n e fits within =
    let low : bit_and word mask < 2 ^ n = omega (arith, and_le_r word mask) in
    let other : pattern < 2 ^ n = omega (arith, within, and_le_l mask pattern) in
    ap (λ (x : ℕ). x == pattern) (sym (mod-eq_of_lt low))
    ∙ ap (λ (x : ℕ). bit_and word mask % 2 ^ n == x) (sym (mod-eq_of_lt other))
    ∙ shows-from word mask pattern bit n e within
    ∙ sym (all_of-is (matched mask pattern bit (flags_of word bit n)))

none-more : (b f : Bool) (xs ys : List Bool) → all-from xs ≡ not (or-from ys) → all-from (pick b (not f) xs) ≡ not (or-from (pick b f ys))
none-more true true xs ys h = refl
none-more true false xs ys h = h
none-more false f xs ys h = h

none-from : (mask bit : ℕ) (flags : List Bool) → all-from (matched mask 0 bit flags) ≡ not (or-from (picked mask bit flags))
none-from mask bit [] = refl
none-from mask bit (f ∷ flags) =
    ap (λ (x : ℕ). all-from (pick (flag_of mask bit) (signed (x == 1) f) (matched mask 0 (bit + 1) flags))) (bit_at-zero (31 - bit))
    ∙ none-more (flag_of mask bit) f (matched mask 0 (bit + 1) flags) (picked mask (bit + 1) flags) (none-from mask (bit + 1) flags)

-- it is zero where none of the mask's flags is true
pub none : (word mask bit n : ℕ) → bit + n ≡ 32 → mask < 2 ^ n → (bit_and word mask == 0) ≡ not (some_of (picked mask bit (flags_of word bit n)))
none word mask bit n e fits =
    shows word mask 0 bit n e fits (and_comm mask 0)
    ∙ all_of-is (matched mask 0 bit (flags_of word bit n))
    ∙ none-from mask bit (flags_of word bit n)
    ∙ ap not (sym (some_of-is (picked mask bit (flags_of word bit n))))

pub not-not : (b : Bool) → not (not b) ≡ b
not-not true = refl
not-not false = refl

-- one flag of a word in which bits are set, or cleared, alone
two-set : (a s : ℕ) → a < 2 → s < 2 → (max a s == 1) ≡ (if s == 1 then true else a == 1)
two-set zero zero x y = refl
two-set zero (suc zero) x y = refl
two-set (suc zero) zero x y = refl
two-set (suc zero) (suc zero) x y = refl
two-set (suc (suc a)) s x y = absurd (omega (arith, x))
two-set zero (suc (suc s)) x y = absurd (omega (arith, y))
two-set (suc zero) (suc (suc s)) x y = absurd (omega (arith, y))

two-kept : (a s : ℕ) → a < 2 → s < 2 → (min a s == 1) ≡ (if s == 1 then a == 1 else false)
two-kept zero zero x y = refl
two-kept zero (suc zero) x y = refl
two-kept (suc zero) zero x y = refl
two-kept (suc zero) (suc zero) x y = refl
two-kept (suc (suc a)) s x y = absurd (omega (arith, x))
two-kept zero (suc (suc s)) x y = absurd (omega (arith, y))
two-kept (suc zero) (suc (suc s)) x y = absurd (omega (arith, y))

pub flag-marked : (word set bit : ℕ) → flag_of (bit_or word set) bit ≡ (if flag_of set bit then true else flag_of word bit)
flag-marked word set bit =
    ap (λ (x : ℕ). x == 1) (bit_at_or word set (31 - bit)) ∙ two-set (bit_at word (31 - bit)) (bit_at set (31 - bit)) (bit_at-lt word (31 - bit)) (bit_at-lt set (31 - bit))

pub flag-left : (word keep bit : ℕ) → flag_of (bit_and word keep) bit ≡ (if flag_of keep bit then flag_of word bit else false)
flag-left word keep bit =
    ap (λ (x : ℕ). x == 1) (bit_at_and word keep (31 - bit)) ∙ two-kept (bit_at word (31 - bit)) (bit_at keep (31 - bit)) (bit_at-lt word (31 - bit)) (bit_at-lt keep (31 - bit))
