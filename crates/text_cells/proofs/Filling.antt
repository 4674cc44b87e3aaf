-- A text that is put byte by byte.
use Rattle.std.proofs.Common.{ℕ, ◌+◌, ◌<◌, false, List, [], ◌∷◌, take, drop, length, get_or, sym, subst}
use Rattle.std.proofs.lemmas.List.{take_more, take-append-drop}
use Rattle.streams.specs.Sinks.{Seen, TakesText, Puts}
use Rattle.streams.proofs.Sinking.{takes_then, fails_then}

pub put_within : (o m n : Seen) (xs : List ℕ) (i : ℕ) → i < length xs
    → TakesText o (take i xs) m → Puts m (get_or xs i 0 ∷ []) n false → Puts o xs n false
put_within o m n xs i lt t p =
    subst (λ (text : List ℕ). Puts o text n false) (take-append-drop (i + 1) xs)
    (fails_then o n (take (i + 1) xs) (drop (i + 1) xs)
    (subst (λ (text : List ℕ). Puts o text n false) (sym (take_more xs i 0 lt)) (takes_then o m n (take i xs) (get_or xs i 0 ∷ []) false t p)))
