-- Lists of places, and the beginnings of lists.
use Rattle.std.proofs.Common.{◌≡◌, ℕ, zero, suc, ◌+◌, ◌-◌, ◌≤◌, true, false, List, [], ◌∷◌, ◌++◌, length, refl, sym, ap, ◌∙◌, arith, append_assoc, length-append, Option, None, Some}
use Rattle.std.specs.Prelude.{is_some, is_none}
use Rattle.idaw.specs.Places.{Reach, place_of_byte, each_below}
use Rattle.run_laws.specs.DataAreas.{places_of_bytes, counts}
use Rattle.data_move.proofs.ListLemmas.{each_below_add}
use Rattle.run_laws.specs.ProgramClaims.{IsBeginning}
use Rattle.ccw_walk.specs.Sequences.{Sequence, Nothing, ◌▸◌}

pub length-each_below : {X : Type 0} → (f : ℕ → X) (n : ℕ) → length (each_below f n) ≡ n
length-each_below f zero = refl
length-each_below f (suc n) = length-append (each_below f n) (f n ∷ []) ∙ ap (λ x. x + 1) (length-each_below f n) ∙ (omega arith)

-- the first places of a block begin those of the command
pub some-begin : (b : ℕ) (r : Reach) (rs : Sequence Reach) (done : ℕ) (ps : List (Option ℕ)) → done ≤ r.ccw.count → ps ≡ places_of_bytes b rs ++ each_below (place_of_byte b r) done →
    IsBeginning ps (places_of_bytes b (rs ▸ r))
some-begin b r rs done ps le e =
    let rest : List (Option ℕ) = each_below (λ i. place_of_byte b r (done + i)) (r.ccw.count - done) in
    let total : done + (r.ccw.count - done) ≡ r.ccw.count = omega (arith, le) in (
      rest,
      ap (λ xs. xs ++ rest) e ∙ append_assoc (places_of_bytes b rs) (each_below (place_of_byte b r) done) rest
          ∙ ap (λ xs. places_of_bytes b rs ++ xs) (sym (each_below_add (place_of_byte b r) done (r.ccw.count - done)) ∙ ap (each_below (place_of_byte b r)) total),
    )

pub length-places : (b : ℕ) (rs : Sequence Reach) → length (places_of_bytes b rs) ≡ counts rs
length-places b Nothing = refl
length-places b (rs ▸ r) =
    let f : length (each_below (place_of_byte b r) r.ccw.count) ≡ r.ccw.count = length-each_below (place_of_byte b r) r.ccw.count in
    let g : length (places_of_bytes b rs) ≡ counts rs = length-places b rs in
    length-append (places_of_bytes b rs) (each_below (place_of_byte b r) r.ccw.count) ∙ (omega (arith, f, g))

pub begins-all : {A : Type 0} → (xs : List A) → IsBeginning [] xs
begins-all xs = (xs, refl)

pub none-some : {A : Type 0} → (o : Option A) → is_none o ≡ true → is_some o ≡ false
none-some None e = refl
none-some (Some x) e = absurd (cc e)
