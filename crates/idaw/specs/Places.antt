-- The place of each byte of a command (SA22-7832, chapter 15).
use Rattle.std.specs.Prelude.{ℕ, zero, suc, ◌+◌, ◌-◌, ◌*◌, ◌/◌, ◌%◌, nat_lt, Bool, if◌then◌else◌, List, [], ◌∷◌, ◌++◌, length, slice_index, Option, Some, None}
use Rattle.ccw_codec.specs.declared.Ccw.{Ccw}

-- a command word that took control, whether its bytes are skipped, and the words of its list that
-- were fetched, in order
pub record Reach : Type 0 where
  pub ccw : Ccw
  pub skipped : Bool
  pub words : List ℕ

-- byte j where the words name blocks of b bytes: the first word names any byte, and the bytes go on to
-- the end of its block; each later word names a whole block
abbrev pub place_of_word : ℕ → List ℕ → ℕ → ℕ
place_of_word b words j =
    let y = slice_index words 0 in
    let h = b - y % b in
    if nat_lt j h then y + j else slice_index words (1 + (j - h) / b) + (j - h) % b

-- byte j: in the words' blocks, or from the command word's own address on; a skipped byte has no place
abbrev pub place_of_byte : ℕ → Reach → ℕ → Option ℕ
place_of_byte b r j = if r.skipped then None else Some (if r.ccw.indirect then place_of_word b r.words j else r.ccw.address + j)

-- f 0, f 1, and so on: n of them
abbrev pub each_below : {X : Type 0} → (ℕ → X) → ℕ → List X
each_below f zero = []
each_below f (suc n) = each_below f n ++ f n ∷ []

-- the places of n bytes from byte j on
abbrev pub places_from : ℕ → Reach → ℕ → ℕ → List (Option ℕ)
places_from b r j n = each_below (λ i. place_of_byte b r (j + i)) n

-- one more word of the list is fetched
abbrev pub reach_with_word : Reach → ℕ → Reach
reach_with_word r word = record r { words = r.words ++ word ∷ [] }

-- how many bytes the words reach
abbrev pub covered : ℕ → List ℕ → ℕ
covered b [] = 0
covered b (y ∷ words) = (b - y % b) + length words * b
