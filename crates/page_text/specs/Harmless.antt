-- Texts that HTML takes for no markup.
use Rattle.std.specs.Prelude.{ℕ, ◌==◌, Bool, true, false, not, ◌&&◌, ◌||◌, List, [], ◌∷◌, codes, if◌then◌else◌}

-- a text begins with another
abbrev pub begins : List ℕ → List ℕ → Bool
begins [] text = true
begins (first ∷ front) [] = false
begins (first ∷ front) (byte ∷ rest) = first == byte && begins front rest

-- what follows an ampersand names a character
abbrev pub names_character : List ℕ → Bool
names_character rest = begins (codes "lt;") rest || begins (codes "gt;") rest || begins (codes "amp;") rest || begins (codes "quot;") rest

-- a byte that begins no element, ends none and ends no attribute; `&` only where an entity begins
abbrev pub is_harmless_before : List ℕ → ℕ → Bool
is_harmless_before rest byte = not (byte == 60) && not (byte == 62) && not (byte == 34) && (if byte == 38 then names_character rest else true)

abbrev pub is_harmless : List ℕ → Bool
is_harmless [] = true
is_harmless (byte ∷ rest) = is_harmless_before rest byte && is_harmless rest
