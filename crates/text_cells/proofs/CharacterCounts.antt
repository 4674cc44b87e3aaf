-- How many characters blanks and cut texts have.
use Rattle.std.proofs.Common.{◌≡◌, ℕ, zero, suc, ◌+◌, ◌-◌, ◌≤◌, ◌==◌, Bool, true, false, not, cond, List, [], ◌∷◌, ◌++◌, take, length, take_all, get_or, ◌&&◌, refl, sym, ap, ◌∙◌, subst, arith, add-one, if◌then◌else◌}
use Rattle.std.specs.List.{suffix_len}
use Rattle.std.proofs.lemmas.Bool.{eqb-false}
use Rattle.std.proofs.lemmas.List.Sums.{sum_by-append, count_by_more_yes, count_by_more_no, suffix_len-take_yes, suffix_len-take_no}
use Rattle.text_cells.specs.Characters.{begins, goes_on, characters, without_last, is_cut, repeated, shown}

pub blanks_wide : (times : ℕ) → characters (repeated times (32 ∷ [])) ≡ times
unfolding repeated
blanks_wide zero = refl
blanks_wide (suc times) =
    sum_by-append (λ (x : ℕ). cond (begins x) 1 0) (repeated times (32 ∷ [])) (32 ∷ []) ∙ ap (λ (n : ℕ). n + 1) (blanks_wide times) ∙ add-one times

-- the number of characters up to the last begin, and one, is the number of all
abbrev LastCount : List ℕ → ℕ → Type 0
LastCount xs n = characters (take (n - (suffix_len goes_on (take n xs) + 1)) xs) + 1 ≡ characters (take n xs)

front : (n : ℕ) → suc n - (0 + 1) ≡ n
front n = omega arith

back : (n : ℕ) → n ≡ suc n - 1
back n = omega arith

behind : (xs : List ℕ) (n : ℕ) (b : Bool) → goes_on (get_or xs n 0) ≡ b → goes_on (get_or xs (suc n - 1) 0) ≡ b
behind xs n b e = subst (λ (k : ℕ). goes_on (get_or xs k 0) ≡ b) (back n) e

count_step : (xs : List ℕ) (n : ℕ) (b : Bool) → begins (get_or xs n 0) ≡ b → suc n ≤ length xs → (characters (take (suc n) xs) ≡ 0 → ⊥)
    → ((characters (take n xs) ≡ 0 → ⊥) → LastCount xs n) → LastCount xs (suc n)
count_step xs n true e le some before =
    let none : suffix_len goes_on (take (suc n) xs) ≡ 0 = suffix_len-take_no goes_on xs (suc n) 0 (omega arith) le (behind xs n _ (ap not e)) in
    let more : characters (take (suc n) xs) ≡ characters (take n xs) + 1 =
    subst (λ (k : ℕ). characters (take k xs) ≡ characters (take n xs) + 1) (add-one n) (count_by_more_yes begins xs n 0 (omega (arith, le)) e) in
    subst (λ (k : ℕ). characters (take (suc n - (k + 1)) xs) + 1 ≡ characters (take (suc n) xs)) (sym none)
    (ap (λ (k : ℕ). characters (take k xs) + 1) (front n) ∙ sym more)
count_step xs n false e le some before =
    let longer : suffix_len goes_on (take (suc n) xs) ≡ 1 + suffix_len goes_on (take n xs) =
    subst (λ (k : ℕ). suffix_len goes_on (take (suc n) xs) ≡ 1 + suffix_len goes_on (take k xs)) (sym (back n)) (suffix_len-take_yes goes_on xs (suc n) 0 (omega arith) le (behind xs n _ (ap not e))) in
    let same : characters (take (suc n) xs) ≡ characters (take n xs) =
    subst (λ (k : ℕ). characters (take k xs) ≡ characters (take n xs)) (add-one n) (count_by_more_no begins xs n 0 (omega (arith, le)) e) in
    let at : n - (suffix_len goes_on (take n xs) + 1) ≡ suc n - (suffix_len goes_on (take (suc n) xs) + 1) = omega (arith, longer) in
    ap (λ (k : ℕ). characters (take k xs) + 1) (sym at) ∙ before (λ (z : characters (take n xs) ≡ 0). some (same ∙ z)) ∙ sym same

count_last : (xs : List ℕ) (n : ℕ) → n ≤ length xs → (characters (take n xs) ≡ 0 → ⊥) → LastCount xs n
count_last xs zero le some = absurd (some refl)
count_last xs (suc n) le some = count_step xs n (begins (get_or xs n 0)) refl le some (count_last xs n (omega (arith, le)))

-- what is shown of a cell has as many characters as the cell, where its mark has one
shown_so : (failed : Bool) (text mark : List ℕ) → characters mark ≡ 1 → (cut : Bool) → is_cut failed text ≡ cut
    → (cut ≡ true → characters text ≡ 0 → ⊥) → characters (shown failed text mark) ≡ characters text
shown_so failed text mark one false e some = ap (λ (b : Bool). characters (if b then without_last text ++ mark else text)) e
shown_so failed text mark one true e some =
    let whole : take (length text) text ≡ text = take_all (length text) text (omega arith) in
    let counted : characters (without_last text) + 1 ≡ characters text =
    subst (λ (xs : List ℕ). characters (take (length text - (suffix_len goes_on xs + 1)) text) + 1 ≡ characters xs) whole
    (count_last text (length text) (omega arith) (λ (z : characters (take (length text) text) ≡ 0). some refl (ap characters (sym whole) ∙ z))) in
    ap (λ (b : Bool). characters (if b then without_last text ++ mark else text)) e
    ∙ sum_by-append (λ (x : ℕ). cond (begins x) 1 0) (without_last text) mark ∙ ap (λ (n : ℕ). characters (without_last text) + n) one ∙ counted

some_of : (failed same : Bool) (n : ℕ) → (n == 0) ≡ same → (failed && not same) ≡ true → n ≡ 0 → ⊥
some_of true false n e is z = eqb-false n 0 e z
some_of true true n e is z = eqb-false 0 0 (sym is) refl
some_of false same n e is z = eqb-false 0 0 (sym is) refl

pub shown_wide : (failed : Bool) (text mark : List ℕ) → characters mark ≡ 1 → characters (shown failed text mark) ≡ characters text
shown_wide failed text mark one =
    shown_so failed text mark one (is_cut failed text) refl (λ (yes : is_cut failed text ≡ true). some_of failed (characters text == 0) (characters text) refl yes)
