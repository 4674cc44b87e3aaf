-- The first piece of a text, by the index of the first separator.
use Rattle.std.proofs.Common.{◌≡◌, ℕ, ◌+◌, ◌<◌, Bool, true, false, ◌&&◌, subst, List, [], ◌∷◌, ◌++◌, length, take, drop, get_or, map, ap, ◌∙◌, refl, sym, suc, zero, arith, inl, inr, append-nil, ◌≤◌, ◌-◌}
use Rattle.std.proofs.lemmas.List.{length-drop, take_all, drop_all, drop_more, drop-drop, get_or-drop}
use Rattle.std.specs.Prelude.{if◌then◌else◌}
use Rattle.std.specs.List.{list_all}
use Rattle.std.proofs.lemmas.Bool.{and_parts, eq-eqb}
use Rattle.std.proofs.lemmas.Bool.Decides.{eqb_tells, leb_tells}
use Rattle.script.specs.Pieces.{pieces, onto_first}

pieces_at : (sep x : ℕ) (xs : List ℕ) → x ≡ sep → pieces sep (x ∷ xs) ≡ [] ∷ pieces sep xs
pieces_at sep x xs e = ap (λ (b : Bool). if b then ([] ∷ pieces sep xs) else onto_first x (pieces sep xs)) (eq-eqb x sep e)

pieces_past : (sep x : ℕ) (xs : List ℕ) → (x ≡ sep → ⊥) → pieces sep (x ∷ xs) ≡ onto_first x (pieces sep xs)
pieces_past sep x xs ne = elim (eqb_tells x sep) [
  | inl h ↦ absurd (ne h.1)
  | inr h ↦ ap (λ (b : Bool). if b then ([] ∷ pieces sep xs) else onto_first x (pieces sep xs)) h.0
]

pub cut : (sep : ℕ) (xs : List ℕ) (k s : ℕ) (after : List ℕ) → ((j : ℕ) → j < k → get_or xs j 0 ≡ sep → ⊥)
    → (k < length xs → get_or xs k 0 ≡ sep) → drop k xs ≡ s ∷ after → pieces sep xs ≡ take k xs ∷ pieces sep after
cut sep [] zero s after b f e = absurd (cc)
cut sep [] (suc k) s after b f e = absurd (cc)
cut sep (x ∷ xs) zero s after b f e =
    let tail : xs ≡ after = cc in
    let within : 0 < length (x ∷ xs) = omega arith in
    pieces_at sep x xs (f within) ∙ ap (λ (ys : List ℕ). [] ∷ pieces sep ys) tail
cut sep (x ∷ xs) (suc k) s after b f e =
    let first : 0 < suc k = omega arith in
    let rest = cut sep xs k s after (λ j lt. let more : suc j < suc k = omega arith in b (suc j) more) (λ lt. let more : suc k < suc (length xs) = omega arith in f more) e in
    pieces_past sep x xs (b 0 first) ∙ ap (onto_first x) rest

pub whole : (sep : ℕ) (xs : List ℕ) (k : ℕ) → ((j : ℕ) → j < k → get_or xs j 0 ≡ sep → ⊥) → drop k xs ≡ [] → pieces sep xs ≡ take k xs ∷ []
whole sep [] zero b e = refl
whole sep [] (suc k) b e = refl
whole sep (x ∷ xs) zero b e = absurd (cc)
whole sep (x ∷ xs) (suc k) b e =
    let first : 0 < suc k = omega arith in
    let rest = whole sep xs k (λ j lt. let more : suc j < suc k = omega arith in b (suc j) more) e in
    pieces_past sep x xs (b 0 first) ∙ ap (onto_first x) rest

leading : (ps : List (List ℕ)) (p : List ℕ) (qs : List (List ℕ)) → ps ≡ p ∷ qs → ps ≡ p ∷ drop 1 ps
leading ps p qs e = e ∙ ap (λ (t : List (List ℕ)). p ∷ t) (sym (ap (drop 1) e))

-- the first piece reaches to the first separator
pub headed : (sep : ℕ) (xs : List ℕ) (k : ℕ) → k ≤ length xs → ((j : ℕ) → j < k → get_or xs j 0 ≡ sep → ⊥) → (k < length xs → get_or xs k 0 ≡ sep)
    → pieces sep xs ≡ take k xs ∷ drop 1 (pieces sep xs)
headed sep xs k within before found = elim (leb_tells (length xs) k) [
  | inl h ↦ leading _ _ _ (whole sep xs k before (drop_all k xs h.1))
  | inr h ↦ let less : k < length xs = h.1 in leading _ _ _ (cut sep xs k _ _ before found (drop_more xs k 0 less))
]

pushed : {A : Type 0} (f : A → List ℕ) (xs : List A) (x : A) (qs : List (List ℕ)) → map f (xs ++ x ∷ []) ++ qs ≡ map f xs ++ (f x ∷ qs)
pushed f [] x qs = refl
pushed f (y ∷ ys) x qs = ap (λ (t : List (List ℕ)). f y ∷ t) (pushed f ys x qs)

pub ended : {A : Type 0} (f : A → List ℕ) (items new : List A) (x : A) (sep k : ℕ) (rest bytes : List ℕ) → new ≡ items ++ x ∷ [] → f x ≡ take k rest
    → map f items ++ pieces sep rest ≡ pieces sep bytes → pieces sep rest ≡ take k rest ∷ [] → map f new ≡ pieces sep bytes
ended f items new x sep k rest bytes e g inv w =
    ap (map f) e ∙ sym (append-nil (map f (items ++ x ∷ []))) ∙ pushed f items x [] ∙ ap (λ (t : List ℕ). map f items ++ (t ∷ [])) g
    ∙ ap (λ (t : List (List ℕ)). map f items ++ t) (sym w) ∙ inv

pub joined : {A : Type 0} (f : A → List ℕ) (items new : List A) (x : A) (sep : ℕ) (rest after bytes : List ℕ) → new ≡ items ++ x ∷ []
    → map f items ++ pieces sep rest ≡ pieces sep bytes → pieces sep rest ≡ f x ∷ pieces sep after → map f new ++ pieces sep after ≡ pieces sep bytes
joined f items new x sep rest after bytes e inv w =
    ap (λ (t : List _). map f t ++ pieces sep after) e ∙ pushed f items x (pieces sep after)
    ∙ ap (λ (t : List (List ℕ)). map f items ++ t) (sym w) ∙ inv

pub parted : {A : Type 0} (f : A → List ℕ) (items new : List A) (x : A) (sep k : ℕ) (rest after bytes : List ℕ) → new ≡ items ++ x ∷ [] → f x ≡ take k rest
    → map f items ++ pieces sep rest ≡ pieces sep bytes → pieces sep rest ≡ take k rest ∷ pieces sep after → map f new ++ pieces sep after ≡ pieces sep bytes
parted f items new x sep k rest after bytes e g inv w =
    joined f items new x sep rest after bytes e inv (w ∙ ap (λ (t : List ℕ). t ∷ pieces sep after) (sym g))

-- the piece between an index and the next separator
pub next : (sep : ℕ) (xs : List ℕ) (start index : ℕ) → start ≤ index → index < length xs → ((k : ℕ) → start ≤ k → k < index → get_or xs k 0 ≡ sep → ⊥)
    → get_or xs index 0 ≡ sep → pieces sep (drop start xs) ≡ take (index - start) (drop start xs) ∷ pieces sep (drop (index + 1) xs)
next sep xs start index le lt before found =
    let at : start + (index - start) ≡ index = omega arith in
    let rest = drop-drop (index - start) start xs ∙ ap (λ (n : ℕ). drop n xs) at ∙ drop_more xs index 0 lt in
    cut sep (drop start xs) (index - start) (get_or xs index 0) (drop (index + 1) xs)
    (λ j less e. before (start + j) (omega arith) (omega arith) (sym (get_or-drop start xs j 0) ∙ e))
    (λ less. get_or-drop start xs (index - start) 0 ∙ ap (λ (n : ℕ). get_or xs n 0) at ∙ found)
    rest

-- the piece behind the last separator
pub last : (sep : ℕ) (xs : List ℕ) (start : ℕ) → start ≤ length xs → ((k : ℕ) → start ≤ k → k < length xs → get_or xs k 0 ≡ sep → ⊥)
    → pieces sep (drop start xs) ≡ take (length xs - start) (drop start xs) ∷ []
last sep xs start le before =
    let at : start + (length xs - start) ≡ length xs = omega arith in
    whole sep (drop start xs) (length xs - start)
    (λ j less e. before (start + j) (omega arith) (omega arith) (sym (get_or-drop start xs j 0) ∙ e))
    (drop-drop (length xs - start) start xs ∙ ap (λ (n : ℕ). drop n xs) at ∙ drop_all (length xs) xs (omega arith))

-- what stands behind the separator
pub behind : (others : List ℕ) → 1 ≤ length others → others ≡ get_or others 0 0 ∷ take (length others - 1) (drop 1 others)
behind [] h = absurd (omega arith)
behind (x ∷ xs) h =
    let n : suc (length xs) - 1 ≡ length xs = omega arith in
    ap (λ (ys : List ℕ). x ∷ ys) (sym (take_all (length xs) xs (omega arith)) ∙ ap (λ (m : ℕ). take m xs) (sym n))

pub nothing : (others : List ℕ) → length others < 1 → others ≡ []
nothing [] h = refl
nothing (x ∷ xs) h = absurd (omega arith)

-- all that is left of a text
pub left : (xs : List ℕ) (count : ℕ) → take (length xs - count) (drop count xs) ≡ drop count xs
left xs count = take_all (length xs - count) (drop count xs) (omega (arith, length-drop count xs))

one_longer : (x : ℕ) (ps : List (List ℕ)) → length (onto_first x ps) ≤ length ps + 1
one_longer x [] = omega arith
one_longer x (p ∷ ps) = omega arith

-- there is at most one piece more than bytes
pub few-pieces : (sep : ℕ) (xs : List ℕ) → length (pieces sep xs) ≤ length xs + 1
few-pieces sep [] = omega arith
few-pieces sep (x ∷ xs) = elim (eqb_tells x sep) [
  | inl h ↦ omega (arith, ap length (pieces_at sep x xs h.1), few-pieces sep xs)
  | inr h ↦ omega (arith, ap length (pieces_past sep x xs h.1), one_longer x (pieces sep xs), few-pieces sep xs)
]

both : (a b : Bool) → a ≡ true → b ≡ true → (a && b) ≡ true
both true b p q = q
both false b p q = absurd (cc p)

onto_all : (p : ℕ → Bool) (x : ℕ) (ps : List (List ℕ)) → p x ≡ true → list_all (list_all p) ps ≡ true → list_all (list_all p) (onto_first x ps) ≡ true
onto_all p x [] is e = both _ _ (both _ _ is refl) refl
onto_all p x (q ∷ qs) is e = let parts = and_parts _ _ e in both _ _ (both _ _ is parts.0) parts.1

-- a test that each byte of a text passes, each byte of its pieces passes
pub all_in : (p : ℕ → Bool) (sep : ℕ) (xs : List ℕ) → list_all p xs ≡ true → list_all (list_all p) (pieces sep xs) ≡ true
all_in p sep [] e = refl
all_in p sep (x ∷ xs) e =
    let parts = and_parts _ _ e in
    elim (eqb_tells x sep) [
      | inl h ↦ subst (λ (ps : List (List ℕ)). list_all (list_all p) ps ≡ true) (sym (pieces_at sep x xs h.1)) (all_in p sep xs parts.1)
      | inr h ↦ subst (λ (ps : List (List ℕ)). list_all (list_all p) ps ≡ true) (sym (ap (λ (b : Bool). if b then ([] ∷ pieces sep xs) else onto_first x (pieces sep xs)) h.0))
          (onto_all p x (pieces sep xs) parts.0 (all_in p sep xs parts.1))
    ]
