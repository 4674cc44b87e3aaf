-- The numbers that stand in a circle, and what becomes of circles as a number is put into one or taken out of one.
use Rattle.std.specs.Prelude.{ℕ, suc, zero, ◌≡◌, ◌==◌, Bool, true, false, not, if◌then◌else◌, List, [], ◌∷◌, ◌++◌, length, nat_eq}
use Rattle.std.specs.List.{IsDistinct, filter, list_any}
use Rattle.interruptions.specs.Circles.{Circles, former_of, next_of}

-- from one number over others to a last one
abbrev pub IsPath : (ℕ → ℕ) → (ℕ → ℕ) → ℕ → List ℕ → ℕ → Type 0
IsPath next former first [] last = (next first ≡ last) × (former last ≡ first)
IsPath next former first (number ∷ numbers) last = (next first ≡ number) × ((former number ≡ first) × IsPath next former number numbers last)

-- from one number over others back to it
abbrev pub IsCircle : Circles → ℕ → List ℕ → Type 0
IsCircle c at numbers = IsPath (next_of c) (former_of c) at numbers at

abbrev pub has : ℕ → List ℕ → Bool
has number numbers = list_any (nat_eq number) numbers

abbrev pub without : ℕ → List ℕ → List ℕ
without number numbers = filter (λ other. not (nat_eq number other)) numbers

-- the numbers from one to another, at most so many
abbrev pub follow : (ℕ → ℕ) → ℕ → ℕ → ℕ → List ℕ
follow next zero first last = []
follow next (suc most) first last = if next first == last then [] else next first ∷ follow next most (next first) last

-- a number was put into the circle of another: it comes last there, and other circles are as before
pub record IsPut (old : Circles) (at number : ℕ) (new : Circles) : Type 0 where
  pub long : length new.next ≡ length old.next
  pub own : (numbers : List ℕ) → IsCircle old at numbers → IsDistinct nat_eq (at ∷ numbers) → has number (at ∷ numbers) ≡ false → IsCircle new at (numbers ++ number ∷ [])
  pub others : (numbers : List ℕ) → IsCircle old at numbers → (other : ℕ) (rest : List ℕ) → IsCircle old other rest → has at (other ∷ rest) ≡ false → has number (other ∷ rest) ≡ false → IsCircle new other rest

-- a number was taken out of the circle that it stood in: the others there stay in order, it is alone, and other circles are as
-- before
pub record IsTaken (old : Circles) (number : ℕ) (new : Circles) : Type 0 where
  pub long : length new.next ≡ length old.next
  pub itself : IsCircle new number []
  pub own : (at : ℕ) (numbers : List ℕ) → IsCircle old at numbers → IsDistinct nat_eq (at ∷ numbers) → has number numbers ≡ true → IsCircle new at (without number numbers)
  pub others : (at : ℕ) (numbers : List ℕ) → IsCircle old at numbers → has number numbers ≡ true → (other : ℕ) (rest : List ℕ) → IsCircle old other rest → has number (other ∷ rest) ≡ false → IsCircle new other rest
