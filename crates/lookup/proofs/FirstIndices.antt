-- The first index of a list at which a test passes.
use Rattle.std.proofs.Common.{◌≡◌, refl, sym, ◌∙◌, ap, ℕ, ◌+◌, ◌<◌, zero, suc, Bool, true, false, Option, None, Some, List, [], ◌∷◌, length, take, slice_index_or, if◌then◌else◌, arith}
use Rattle.subchannel_model.specs.declared.state.Subchannel.{Subchannel}
use Rattle.subchannel_model.specs.Indices.{first_index, one_later}

-- where the first index of a longer list is none, so is that of its rest, and its head does not pass
later-none : (o : Option ℕ) → one_later o ≡ None → o ≡ None
later-none None e = refl
later-none (Some i) e = cc

head-fails : (b : Bool) (o : Option ℕ) → (if b then Some 0 else o) ≡ None → b ≡ false
head-fails true o e = cc
head-fails false o e = refl

rest-none : (b : Bool) (o : Option ℕ) → (if b then Some 0 else o) ≡ None → o ≡ None
rest-none true o e = cc
rest-none false o e = e

pub first_index-at : (test : Subchannel → Bool) (subs : List Subchannel) (i : ℕ) (sub other : Subchannel) → i < length subs →
    sub ≡ slice_index_or subs i other → first_index test (take i subs) ≡ None → test sub ≡ true → first_index test subs ≡ Some i
first_index-at test [] i sub other within there none passes = absurd (omega (arith, within))
first_index-at test (x ∷ xs) zero sub other within there none passes =
    let head : test x ≡ true = ap test (sym there) ∙ passes in
    ap (λ (b : Bool). if b then Some 0 else one_later (first_index test xs)) head
first_index-at test (x ∷ xs) (suc i) sub other within there none passes =
    let fails : test x ≡ false = head-fails (test x) (one_later (first_index test (take i xs))) none in
    let before : first_index test (take i xs) ≡ None =
    later-none (first_index test (take i xs)) (rest-none (test x) (one_later (first_index test (take i xs))) none) in
    let inside : i < length xs = omega (arith, within) in
    let index : first_index test xs ≡ Some i = first_index-at test xs i sub other inside there before passes in
    let one : i + 1 ≡ suc i = omega arith in
    (ap (λ (b : Bool). if b then Some 0 else one_later (first_index test xs)) fails ∙ ap one_later index) ∙ ap (λ (n : ℕ). Some n) one

-- a head that fails, and none in the rest
none-cons : (b : Bool) (o : Option ℕ) → b ≡ false → o ≡ None → (if b then Some 0 else one_later o) ≡ None
none-cons true o e f = cc
none-cons false o e f = ap one_later f

pub first_index-more : (test : Subchannel → Bool) (subs : List Subchannel) (i : ℕ) (sub other : Subchannel) → i < length subs →
    sub ≡ slice_index_or subs i other → first_index test (take i subs) ≡ None → test sub ≡ false → first_index test (take (suc i) subs) ≡ None
first_index-more test [] i sub other within there none fails = absurd (omega (arith, within))
first_index-more test (x ∷ xs) zero sub other within there none fails = none-cons (test x) None (ap test (sym there) ∙ fails) refl
first_index-more test (x ∷ xs) (suc i) sub other within there none fails =
    let inside : i < length xs = omega (arith, within) in
    none-cons (test x) (first_index test (take (suc i) xs)) (head-fails (test x) (one_later (first_index test (take i xs))) none)
    (first_index-more test xs i sub other inside there (later-none (first_index test (take i xs)) (rest-none (test x) (one_later (first_index test (take i xs))) none)) fails)
