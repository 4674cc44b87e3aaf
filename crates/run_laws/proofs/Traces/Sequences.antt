-- What is true of any sequence.
use Rattle.std.proofs.Common.{◌≡◌, refl, ap, sym, ◌∙◌, suc, ◌+◌, List, [], ◌∷◌, ◌++◌, length, arith}
use Rattle.std.specs.Prelude.{reverse}
use Rattle.std.proofs.lemmas.List.{reverse-append}
use Rattle.ccw_walk.specs.Sequences.{Sequence, Nothing, ◌▸◌, ◌▸▸◌, count, each, in_order}

-- three parts in order are the same however they are joined
pub joined-in-order : {A : Type 0} (first second third : Sequence A) → first ▸▸ (second ▸▸ third) ≡ (first ▸▸ second) ▸▸ third
joined-in-order first second Nothing = refl
joined-in-order first second (third ▸ last) = ap (λ xs. xs ▸ last) (joined-in-order first second third)

pub count-joined : {A : Type 0} (before more : Sequence A) → count (before ▸▸ more) ≡ count more + count before
count-joined before Nothing = omega arith
count-joined before (more ▸ last) = let h : count (before ▸▸ more) ≡ count more + count before = count-joined before more in omega (arith, h)

pub count-each : {A B : Type 0} (f : A → B) (xs : Sequence A) → count (each f xs) ≡ count xs
count-each f Nothing = refl
count-each f (before ▸ last) = ap suc (count-each f before)

-- the list that has the last first
abbrev pub backward : {A : Type 0} → Sequence A → List A
backward Nothing = []
backward (before ▸ last) = last ∷ backward before

pub length-backward : {A : Type 0} (xs : Sequence A) → length (backward xs) ≡ count xs
length-backward Nothing = refl
length-backward (before ▸ last) = ap suc (length-backward before)

pub in_order-backward : {A : Type 0} (xs : Sequence A) → in_order xs ≡ reverse (backward xs)
in_order-backward Nothing = refl
in_order-backward (before ▸ last) = ap (λ xs. xs ++ last ∷ []) (in_order-backward before) ∙ sym (reverse-append (last ∷ []) (backward before))

abbrev forward : {A : Type 0} → List A → Sequence A
forward [] = Nothing
forward (last ∷ before) = forward before ▸ last

forward-backward : {A : Type 0} (xs : Sequence A) → forward (backward xs) ≡ xs
forward-backward Nothing = refl
forward-backward (before ▸ last) = ap (λ xs. xs ▸ last) (forward-backward before)

pub same-backward : {A : Type 0} (xs ys : Sequence A) → backward xs ≡ backward ys → xs ≡ ys
same-backward xs ys e = sym (forward-backward xs) ∙ ap forward e ∙ forward-backward ys
