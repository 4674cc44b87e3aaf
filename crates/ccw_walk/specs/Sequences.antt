-- What came one after another, told in the order of time.
use Rattle.std.specs.Prelude.{ℕ, zero, suc, List, [], ◌∷◌, ◌++◌}

-- nothing yet, or one more after what came before
infixl 67 ◌▸◌
pub data Sequence (A : Type 0) : Type 0 where
  Nothing : Sequence A
  ◌▸◌ : (before : Sequence A) → (last : A) → Sequence A

-- what came before, and then what came after it
infixr 65 ◌▸▸◌
abbrev pub ◌▸▸◌ : {A : Type 0} → Sequence A → Sequence A → Sequence A
before ▸▸ Nothing = before
before ▸▸ (after ▸ last) = (before ▸▸ after) ▸ last

-- how many came
abbrev pub count : {A : Type 0} → Sequence A → ℕ
count Nothing = zero
count (before ▸ last) = suc (count before)

-- what is told of each that came
abbrev pub each : {A B : Type 0} → (A → B) → Sequence A → Sequence B
each f Nothing = Nothing
each f (before ▸ last) = each f before ▸ f last

-- the list of what came
abbrev pub in_order : {A : Type 0} → Sequence A → List A
in_order Nothing = []
in_order (before ▸ last) = in_order before ++ last ∷ []
