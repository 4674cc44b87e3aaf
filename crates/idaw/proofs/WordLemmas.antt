-- A word that is added to a list moves no byte before, and its bytes come next.
use Rattle.std.proofs.Common.{◌≡◌, ℕ, ◌+◌, ◌-◌, ◌*◌, ◌/◌, ◌%◌, ◌<◌, ◌≤◌, ◌⊎◌, inl, inr, Bool, true, false, List, [], ◌∷◌, ◌++◌, length, refl, ap, ◌∙◌, arith, length-append}
use Rattle.std.specs.Prelude.{nat_lt, if◌then◌else◌, slice_index}
use Rattle.std.proofs.lemmas.Bool.{ltb-false, lt-ltb, le-ltb}
use Rattle.std.proofs.lemmas.Nat.{div-mul-add, mod-mul-add}
use Rattle.std.proofs.Math.Nat.{div-lt_iff_lt-mul}
use Rattle.std.proofs.Math.ListN.{get_or-append}
use Rattle.std.proofs.Math.Seq.{get_or-append_seam}
use Rattle.idaw.specs.Places.{place_of_word, covered}

pick : (t : Bool) (p q q' : ℕ) → (t ≡ false → q ≡ q') → (if t then p else q) ≡ (if t then p else q')
pick true p q q' e = refl
pick false p q q' e = e refl

pub picks_true : (t : Bool) (p q : ℕ) → t ≡ true → (if t then p else q) ≡ p
picks_true true p q e = refl
picks_true false p q e = absurd (cc)

pub picks_false : (t : Bool) (p q : ℕ) → t ≡ false → (if t then p else q) ≡ q
picks_false true p q e = absurd (cc)
picks_false false p q e = refl

pub word_stays : (b : ℕ) (words : List ℕ) (w j : ℕ) → 0 < b → j < covered b words → place_of_word b (words ++ w ∷ []) j ≡ place_of_word b words j
word_stays b [] w j pos l = absurd (omega arith)
word_stays b (y ∷ ys) w j pos l =
    let h : ℕ = b - y % b in
    pick (nat_lt j h) (y + j) _ _
    (λ no.
    let ge : h ≤ j = ltb-false j h no in
    let below : j - h < length ys * b = omega arith in
    let k : (j - h) / b < length ys = (div-lt_iff_lt-mul pos).1 below in
    let in_list : 1 + (j - h) / b < length (y ∷ ys) = omega arith in
    ap (λ x. x + (j - h) % b) (get_or-append (y ∷ ys) (w ∷ []) 0 (1 + (j - h) / b) in_list))

pub word_next : (b : ℕ) (words : List ℕ) (w i : ℕ) → 0 < b → i < b - w % b → place_of_word b (words ++ w ∷ []) (covered b words + i) ≡ w + i
word_next b [] w i pos l =
    let zero_add : 0 + i ≡ i = omega arith in
    ap (λ j. place_of_word b (w ∷ []) j) zero_add ∙ picks_true (nat_lt i (b - w % b)) (w + i) _ (lt-ltb i (b - w % b) l)
word_next b (y ∷ ys) w i pos l =
    let h : ℕ = b - y % b in
    let less : i < b = omega arith in
    let j : ℕ = (h + length ys * b) + i in
    let e : j - h ≡ length ys * b + i = omega arith in
    let d : (j - h) / b ≡ length ys = ap (λ x. x / b) e ∙ div-mul-add (length ys) b i less in
    let m : (j - h) % b ≡ i = ap (λ x. x % b) e ∙ mod-mul-add (length ys) b i less in
    let one : 1 + (j - h) / b ≡ length (y ∷ ys) = omega (arith, d) in
    picks_false (nat_lt j h) (y + j) (slice_index (y ∷ (ys ++ w ∷ [])) (1 + (j - h) / b) + (j - h) % b) (le-ltb j h (omega arith))
    ∙ ap (λ x. slice_index (y ∷ (ys ++ w ∷ [])) x + (j - h) % b) one
    ∙ ap (λ x. x + (j - h) % b) (get_or-append_seam (y ∷ ys) w [] 0)
    ∙ ap (λ x. w + x) m

pub word_reaches : (b : ℕ) (words : List ℕ) (w : ℕ) → (length words ≡ 0) ⊎ (w % b ≡ 0) → covered b (words ++ w ∷ []) ≡ covered b words + (b - w % b)
word_reaches b [] w c = omega arith
word_reaches b (y ∷ ys) w (inl e) = absurd (omega arith)
word_reaches b (y ∷ ys) w (inr e) =
    let l : length (ys ++ w ∷ []) ≡ length ys + 1 = length-append ys (w ∷ []) in
    ap (λ n. (b - y % b) + n * b) l ∙ (omega arith)
