-- Bytes sought by marks of many at a time.
use Rattle.std.proofs.Common.{◌≡◌, ℕ, ◌+◌, ◌*◌, ◌/◌, ◌%◌, ◌^◌, ◌<◌, ◌≤◌, Bool, true, false, not, cond, eqb, inl, inr, List, [], ◌∷◌, length, take, drop, get_or, map, refl, ap, sym, suc, zero, ◌∙◌, arith}
use Rattle.std.specs.List.{prefix_len, drop-map, take-map}
use Rattle.std.proofs.Math.Nat.{div-div-eq-div-mul, div-one, mod-eq_of_lt, mod-one, zero-div, zero-mod}
use Rattle.std.proofs.Math.Arith.{mod-mul}
use Rattle.std.proofs.Math.Pow.{pow-lt}
use Rattle.std.proofs.lemmas.Nat.{pow_pos}
use Rattle.std.proofs.lemmas.List.{take-take}
use Rattle.std.proofs.lemmas.Simd.{length-chunk, trailing_mask_l, leading_from_mask_l, none_from_empty_mask, run_in_chunk_fails, run_in_chunk_stops}
use Rattle.std.proofs.lemmas.List.Sums.{prefix_len-le-length, prefix_len_passes, prefix_len_stops}
use Rattle.std.proofs.lemmas.Bool.{eqb-true, eqb-false}
use Rattle.std.proofs.lemmas.Bool.Decides.{leb_tells}
use lib.Lanes.{chunk, mask_l}
use lib.Count.{count_trailing_zeros}

abbrev is : ℕ → ℕ → Bool
is b x = eqb x b

none_fails : (b : Bool) (n l m : ℕ) → n ≤ l → cond (not b) (1 + n) 0 ≡ 1 + l → (n ≡ l → m ≡ 0) → cond b 1 0 + 2 * m ≡ 0
none_fails true n l m le e ih = absurd (omega arith)
none_fails false n l m le e ih = let z = ih (omega arith) in omega arith

all_fail : (p : ℕ → Bool) (xs : List ℕ) → prefix_len (λ x. not (p x)) xs ≡ length xs → mask_l (map p xs) ≡ 0
all_fail p [] e = refl
all_fail p (x ∷ xs) e = none_fails (p x) _ (length xs) _ (prefix_len-le-length (λ y. not (p y)) xs) (omega arith) (all_fail p xs)

-- where none of 16 bytes is marked, none of them is such
pub unmarked : (xs : List ℕ) (b i m : ℕ) → i + 16 ≤ length xs → m ≡ mask_l (map (is b) (chunk i 16 xs)) → m ≡ 0
    → (k : ℕ) → i ≤ k → k < i + 16 → get_or xs k 0 ≡ b → ⊥
unmarked xs b i m room marks none k from to = eqb-false _ b (none_from_empty_mask (is b) xs i 16 0 room (sym marks ∙ none) k from to)

-- else the lowest mark is that of the first which is such
pub record IsFirstMarked (xs : List ℕ) (b i r : ℕ) : Type 0 where
  pub within : r < 16
  pub before : (k : ℕ) → i ≤ k → k < i + r → get_or xs k 0 ≡ b → ⊥
  pub found : get_or xs (i + r) 0 ≡ b

pub marked : (xs : List ℕ) (b i m : ℕ) → i + 16 ≤ length xs → m ≡ mask_l (map (is b) (chunk i 16 xs)) → 0 < m
    → IsFirstMarked xs b i (count_trailing_zeros 64 m)
marked xs b i m room marks some =
    let ys = chunk i 16 xs in
    let long = length-chunk i 16 xs room in
    let counted = ap (count_trailing_zeros 64) marks ∙ trailing_mask_l (is b) 64 ys (omega arith) (omega (arith, marks)) in
    let most = prefix_len-le-length (λ x. not (is b x)) ys in
    let short : count_trailing_zeros 64 m < 16 = elim (leb_tells 16 (count_trailing_zeros 64 m)) [
      | inl h ↦
          let all : prefix_len (λ x. not (is b x)) ys ≡ length ys = omega (arith, h.1, counted, most, long) in
          let none = all_fail (is b) ys all in
          absurd (omega (arith, marks, none))
      | inr h ↦ h.1
    ] in
    record {
      within = short;
      before = λ k from to. eqb-false _ b (run_in_chunk_fails (is b) xs i 16 _ 0 room counted k from to);
      found = eqb-true _ b (run_in_chunk_stops (is b) xs i 16 _ 0 room counted short);
    }

-- none in front, and none of those that follow
pub joined : (xs : List ℕ) (b i n : ℕ) → ((k : ℕ) → k < i → get_or xs k 0 ≡ b → ⊥) → ((k : ℕ) → i ≤ k → k < n → get_or xs k 0 ≡ b → ⊥)
    → (k : ℕ) → k < n → get_or xs k 0 ≡ b → ⊥
joined xs b i n low high k lt = elim (leb_tells i k) [
  | inl h ↦ let from : i ≤ k = h.1 in high k from lt
  | inr h ↦ let less : k < i = h.1 in low k less
]

was-false : (b : Bool) → not b ≡ true → b ≡ false
was-false true e = absurd (cc e)
was-false false e = refl

was-true : (b : Bool) → not b ≡ false → b ≡ true
was-true true e = refl
was-true false e = absurd (cc e)

-- where some byte of a list is marked, the lowest mark is that of the first which is such
pub record IsFirstOf (xs : List ℕ) (b r : ℕ) : Type 0 where
  pub within : r < length xs
  pub before : (k : ℕ) → k < r → get_or xs k 0 ≡ b → ⊥
  pub found : get_or xs r 0 ≡ b

pub first_of : (xs : List ℕ) (b m : ℕ) → length xs < 16 → m ≡ mask_l (map (is b) xs) → 0 < m → IsFirstOf xs b (count_trailing_zeros 64 m)
first_of xs b m few marks some =
    let counted = ap (count_trailing_zeros 64) marks ∙ trailing_mask_l (is b) 64 xs (omega arith) (omega (arith, marks)) in
    let most = prefix_len-le-length (λ x. not (is b x)) xs in
    let short : prefix_len (λ x. not (is b x)) xs < length xs = elim (leb_tells (length xs) (prefix_len (λ x. not (is b x)) xs)) [
      | inl h ↦
          let all : prefix_len (λ x. not (is b x)) xs ≡ length xs = omega (arith, h.1, most) in
          let none = all_fail (is b) xs all in
          absurd (omega (arith, marks, none))
      | inr h ↦ h.1
    ] in
    record {
      within = omega (arith, counted, short);
      before = λ k lt. eqb-false _ b (was-false _ (prefix_len_passes (λ x. not (is b x)) xs k 0 (omega (arith, lt, counted))));
      found = ap (λ (n : ℕ). get_or xs n 0) counted ∙ eqb-true _ b (was-true _ (prefix_len_stops (λ x. not (is b x)) xs 0 short));
    }

pub first_within : (xs : List ℕ) (m : ℕ) → length xs < 16 → m ≡ mask_l (map (λ x. eqb x 32) xs) → 0 < m → count_trailing_zeros 64 m < length xs
first_within xs m few marks some = let first = first_of xs 32 m few marks some in first.within

-- where no byte of a list is marked, none is such
pub none_of : (xs : List ℕ) (b m : ℕ) → m ≡ mask_l (map (is b) xs) → m ≡ 0 → (k : ℕ) → k < length xs → get_or xs k 0 ≡ b → ⊥
none_of xs b m marks none k lt =
    let all = leading_from_mask_l (is b) xs (sym marks ∙ none) in
    eqb-false _ b (was-false _ (prefix_len_passes (λ x. not (is b x)) xs k 0 (omega (arith, lt, all))))

half : (b : Bool) (m : ℕ) → (cond b 1 0 + 2 * m) / 2 ≡ m
half true m = omega arith
half false m = omega arith

parity : (b : Bool) (m : ℕ) → (cond b 1 0 + 2 * m) % 2 ≡ cond b 1 0
parity true m = omega arith
parity false m = omega arith

-- the marks of what stands behind some indices
shifted : (ms : List Bool) (n : ℕ) → mask_l ms / 2 ^ n ≡ mask_l (drop n ms)
shifted ms zero = div-one (mask_l ms)
shifted [] (suc n) = zero-div (2 ^ suc n)
shifted (b ∷ bs) (suc n) =
    let twice : 2 ^ suc n ≡ 2 * 2 ^ n = omega arith in
    ap (λ (d : ℕ). mask_l (b ∷ bs) / d) twice ∙ sym (div-div-eq-div-mul (mask_l (b ∷ bs)) 2 (2 ^ n))
    ∙ ap (λ (m : ℕ). m / 2 ^ n) (half b (mask_l bs)) ∙ shifted bs n

pub marks-behind : (xs : List ℕ) (b n m : ℕ) → m ≡ mask_l (map (is b) xs) → m / 2 ^ n ≡ mask_l (map (is b) (drop n xs))
marks-behind xs b n m marks = ap (λ (k : ℕ). k / 2 ^ n) marks ∙ shifted (map (is b) xs) n ∙ ap mask_l (drop-map (is b) n xs)

-- the marks of so many indices
low : (ms : List Bool) (n : ℕ) → mask_l ms % 2 ^ n ≡ mask_l (take n ms)
low ms zero = mod-one (mask_l ms)
low [] (suc n) = zero-mod (2 ^ suc n)
low (b ∷ bs) (suc n) =
    let m = mask_l bs in
    let twice : 2 ^ suc n ≡ 2 ^ n * 2 = omega arith in
    let split = mod-mul (mask_l (b ∷ bs)) {m = 2 ^ n} {c = 2} (pow_pos n) (omega arith) in
    let rest : m % 2 ^ n ≡ mask_l (take n bs) = low bs n in
    ap (λ (d : ℕ). mask_l (b ∷ bs) % d) twice ∙ split
    ∙ ap (λ (h : ℕ). (h % 2 ^ n) * 2 + mask_l (b ∷ bs) % 2) (half b m)
    ∙ ap (λ (p : ℕ). (m % 2 ^ n) * 2 + p) (parity b m)
    ∙ ap (λ (r : ℕ). r * 2 + cond b 1 0) rest
    ∙ omega arith

pub marks-before : (xs : List ℕ) (b n m : ℕ) → n < 16 → m ≡ mask_l (map (is b) (take 16 xs)) → m % (1 * 2 ^ n % 2 ^ 64) ≡ mask_l (map (is b) (take n xs))
marks-before xs b n m few marks =
    let within : n < 64 = omega arith in
    let small = pow-lt within in
    let whole : 1 * 2 ^ n % 2 ^ 64 ≡ 2 ^ n = ap (λ (p : ℕ). p % 2 ^ 64) (omega arith) ∙ mod-eq_of_lt small in
    ap (λ (d : ℕ). m % d) whole ∙ ap (λ (k : ℕ). k % 2 ^ n) marks ∙ low (map (is b) (take 16 xs)) n
    ∙ ap mask_l (take-map (is b) n (take 16 xs) ∙ ap (map (is b)) (take-take n 16 xs (omega arith)))
