-- The digits of the next number.
use Rattle.std.proofs.Common.{◌≡◌, ℕ, ◌+◌, ◌-◌, ◌/◌, ◌%◌, ◌^◌, ◌<◌, ◌≤◌, List, [], ◌∷◌, ◌++◌, length, take, set, get_or, decimal, refl, sym, ap, ◌∙◌, inl, inr, arith}
use Rattle.std.proofs.lemmas.Fmt.{decimal_digit, decimal_step}
use Rattle.std.proofs.lemmas.List.{length-set, length-take-le, take_more, take_more_set}
use Rattle.std.proofs.lemmas.Bool.Decides.{leb_tells}

-- what stands before the last, and the last
last_of : (xs ys : List ℕ) (x y : ℕ) → xs ++ x ∷ [] ≡ ys ++ y ∷ [] → (xs ≡ ys) × (x ≡ y)
last_of [] [] x y e = (refl, cc)
last_of [] (b ∷ []) x y e = absurd (cc)
last_of [] (b ∷ c ∷ ys) x y e = absurd (cc)
last_of (a ∷ []) [] x y e = absurd (cc)
last_of (a ∷ c ∷ xs) [] x y e = absurd (cc)
last_of (a ∷ xs) (b ∷ ys) x y e =
    let rest : xs ++ x ∷ [] ≡ ys ++ y ∷ [] = cc in
    let first : a ≡ b = cc in
    let tail = last_of xs ys x y rest in
    (cc (first, tail.0), tail.1)

-- the last digit is changed
changed : (ds front : List ℕ) (i digit next : ℕ) → i < length ds → take (i + 1) ds ≡ front ++ digit ∷ [] → (get_or ds i 0 ≡ digit) × (take (i + 1) (set ds i next) ≡ front ++ next ∷ [])
changed ds front i digit next lt e =
    let parts = last_of (take i ds) front (get_or ds i 0) digit (sym (take_more ds i 0 lt) ∙ e) in
    (parts.1, take_more_set ds i next lt ∙ ap (λ (xs : List ℕ). xs ++ next ∷ []) parts.0)

-- a last digit that is not 9 is counted up
pub counted : (ds : List ℕ) (count n m : ℕ) → 1 ≤ count → count ≤ length ds → take count ds ≡ decimal n → m ≡ n + 1 → m < 2 ^ 64 → get_or ds (count - 1) 0 < 57
    → take count (set ds (count - 1) (get_or ds (count - 1) 0 + 1)) ≡ decimal m
counted ds count n m some fits told next small digit =
    let i = count - 1 in
    let all : i + 1 ≡ count = omega arith in
    ap (λ (k : ℕ). take k (set ds i (get_or ds i 0 + 1))) (sym all) ∙ at i (omega arith) (ap (λ (k : ℕ). take k ds) all ∙ told) digit
  where
    at : (i : ℕ) → i < length ds → take (i + 1) ds ≡ decimal n → get_or ds i 0 < 57 → take (i + 1) (set ds i (get_or ds i 0 + 1)) ≡ decimal m
    at i lt whole low = elim (leb_tells 10 n) [
      | inl h ↦
          let many : 10 ≤ n = h.1 in
          let parts = changed ds (decimal (n / 10)) i (48 + n % 10) (get_or ds i 0 + 1) lt (whole ∙ decimal_step n many (omega arith)) in
          let one : get_or ds i 0 ≡ 48 + n % 10 = parts.0 in
          let same : m / 10 ≡ n / 10 = omega arith in
          let last : 48 + m % 10 ≡ get_or ds i 0 + 1 = omega arith in
          parts.1 ∙ ap (λ (x : ℕ). decimal (n / 10) ++ x ∷ []) (sym last) ∙ ap (λ (x : ℕ). decimal x ++ (48 + m % 10) ∷ []) (sym same) ∙ sym (decimal_step m (omega arith) small)
      | inr h ↦
          let few : n < 10 = h.1 in
          let parts = changed ds [] i (48 + n) (get_or ds i 0 + 1) lt (whole ∙ decimal_digit n few) in
          let one : get_or ds i 0 ≡ 48 + n = parts.0 in
          let last : 48 + m ≡ get_or ds i 0 + 1 = omega arith in
          parts.1 ∙ ap (λ (x : ℕ). x ∷ []) (sym last) ∙ sym (decimal_digit m (omega arith))
    ]

-- a last digit that is 9, with one before it that is not, is carried
pub carried : (ds : List ℕ) (count n m : ℕ) → 2 ≤ count → count ≤ length ds → take count ds ≡ decimal n → m ≡ n + 1 → m < 2 ^ 64
    → get_or ds (count - 1) 0 ≡ 57 → get_or ds (count - 1 - 1) 0 < 57
    → take count (set (set ds (count - 1 - 1) (get_or ds (count - 1 - 1) 0 + 1)) (count - 1) 48) ≡ decimal m
carried ds count n m some fits told next small nine digit =
    let i = count - 1 in
    let all : i + 1 ≡ count = omega arith in
    ap (λ (k : ℕ). take k (set (set ds (i - 1) (get_or ds (i - 1) 0 + 1)) i 48)) (sym all)
    ∙ at i (omega arith) (omega arith) (ap (λ (k : ℕ). take k ds) all ∙ told) nine digit
  where
    at : (i : ℕ) → 1 ≤ i → i < length ds → take (i + 1) ds ≡ decimal n → get_or ds i 0 ≡ 57 → get_or ds (i - 1) 0 < 57
        → take (i + 1) (set (set ds (i - 1) (get_or ds (i - 1) 0 + 1)) i 48) ≡ decimal m
    at i before lt whole last low = elim (leb_tells 10 n) [
      | inl h ↦
          let many : 10 ≤ n = h.1 in
          let parts = last_of (take i ds) (decimal (n / 10)) (get_or ds i 0) (48 + n % 10) (sym (take_more ds i 0 lt) ∙ whole ∙ decimal_step n many (omega arith)) in
          let tail : 57 ≡ 48 + n % 10 = sym last ∙ parts.1 in
          let same : m / 10 ≡ n / 10 + 1 = omega arith in
          let none : 48 + m % 10 ≡ 48 = omega arith in
          let raised = set ds (i - 1) (get_or ds (i - 1) 0 + 1) in
          take_more_set raised i 48 (omega (arith, lt, length-set ds (i - 1) (get_or ds (i - 1) 0 + 1)))
          ∙ ap (λ (xs : List ℕ). xs ++ 48 ∷ []) (counted ds i (n / 10) (m / 10) before (omega arith) parts.0 same (omega arith) low)
          ∙ ap (λ (x : ℕ). decimal (m / 10) ++ x ∷ []) (sym none) ∙ sym (decimal_step m (omega arith) small)
      | inr h ↦
          let few : n < 10 = h.1 in
          let size = ap length (whole ∙ decimal_digit n few) in
          absurd (omega (arith, size, length-take-le (i + 1) ds (omega arith)))
    ]
