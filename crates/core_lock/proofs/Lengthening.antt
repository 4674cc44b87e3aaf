-- A list with one item more.
use Rattle.std.proofs.Common.{◌≡◌, ◌+◌, List, [], ◌∷◌, ◌++◌, length, length-append, ap, ◌∙◌}

pub longer : {A : Type 0} (xs ys : List A) (x : A) → ys ≡ xs ++ x ∷ [] → length ys ≡ length xs + 1
longer xs ys x is = ap length is ∙ length-append xs (x ∷ [])
