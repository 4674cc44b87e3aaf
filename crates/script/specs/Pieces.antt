-- How a text is parted.
use Rattle.std.specs.Prelude.{ℕ, ◌==◌, List, [], ◌∷◌, if◌then◌else◌}

-- a byte in front of the first piece
abbrev pub onto_first : ℕ → List (List ℕ) → List (List ℕ)
onto_first b [] = (b ∷ []) ∷ []
onto_first b (p ∷ ps) = (b ∷ p) ∷ ps

-- what stands between the separators: always one piece more than there are separators
abbrev pub pieces : ℕ → List ℕ → List (List ℕ)
pieces separator [] = [] ∷ []
pieces separator (b ∷ bs) = if b == separator then [] ∷ pieces separator bs else onto_first b (pieces separator bs)

-- lines are parted by LF, and words by one space
abbrev pub lines_of : List ℕ → List (List ℕ)
lines_of = pieces 10

abbrev pub words_between_blanks : List ℕ → List (List ℕ)
words_between_blanks = pieces 32
