-- Digits and bytes, one more each.
use Rattle.std.proofs.Common.{◌≡◌, ℕ, ◌+◌, ◌*◌, ◌^◌, ◌<◌, ◌≤◌, List, [], ◌∷◌, ◌++◌, ap, ◌∙◌, refl, sym, suc, zero, arith, append_assoc, length, take, drop, get_or, ◌-◌}
use Rattle.std.proofs.lemmas.List.{take_all, length-append, length-take, length-drop}
use Rattle.std.specs.Prelude.{Option, Some, None}
use Rattle.script_rows.specs.Words.{and_then, bytes_from, pair_value}

pub digit_fits : (i v d : ℕ) → i < 8 → v < 16 ^ i → d < 16 → v * 16 + d < 2 ^ 32
digit_fits zero v d l h k = omega arith
digit_fits (suc zero) v d l h k = omega arith
digit_fits (suc (suc zero)) v d l h k = omega arith
digit_fits (suc (suc (suc zero))) v d l h k = omega arith
digit_fits (suc (suc (suc (suc zero)))) v d l h k = omega arith
digit_fits (suc (suc (suc (suc (suc zero))))) v d l h k = omega arith
digit_fits (suc (suc (suc (suc (suc (suc zero)))))) v d l h k = omega arith
digit_fits (suc (suc (suc (suc (suc (suc (suc zero))))))) v d l h k = omega arith
digit_fits (suc (suc (suc (suc (suc (suc (suc (suc i)))))))) v d l h k = absurd (omega arith)

pub decimal_fits : (i v d : ℕ) → i < 8 → v < 10 ^ i → d < 10 → v * 10 + d < 2 ^ 32
decimal_fits zero v d l h k = omega arith
decimal_fits (suc zero) v d l h k = omega arith
decimal_fits (suc (suc zero)) v d l h k = omega arith
decimal_fits (suc (suc (suc zero))) v d l h k = omega arith
decimal_fits (suc (suc (suc (suc zero)))) v d l h k = omega arith
decimal_fits (suc (suc (suc (suc (suc zero))))) v d l h k = omega arith
decimal_fits (suc (suc (suc (suc (suc (suc zero)))))) v d l h k = omega arith
decimal_fits (suc (suc (suc (suc (suc (suc (suc zero))))))) v d l h k = omega arith
decimal_fits (suc (suc (suc (suc (suc (suc (suc (suc i)))))))) v d l h k = absurd (omega arith)

glued : (r : Option (List ℕ)) (front : List ℕ) (x : ℕ)
    → and_then (and_then r (λ bs. Some (x ∷ bs))) (λ bs. Some (front ++ bs)) ≡ and_then r (λ bs. Some ((front ++ x ∷ []) ++ bs))
glued None front x = refl
glued (Some bs) front x = ap (λ (t : List ℕ). Some t) (sym (append_assoc front (x ∷ []) bs))

pub short_fits : (i v : ℕ) → i ≤ 4 → v < 16 ^ i → v < 65536
short_fits zero v l h = omega arith
short_fits (suc zero) v l h = omega arith
short_fits (suc (suc zero)) v l h = omega arith
short_fits (suc (suc (suc zero))) v l h = omega arith
short_fits (suc (suc (suc (suc zero)))) v l h = omega arith
short_fits (suc (suc (suc (suc (suc i))))) v l h = absurd (omega arith)

pub onward : (word rest chunk next : List ℕ) (x : ℕ) → next ≡ chunk ++ x ∷ [] → 2 ≤ length rest → pair_value (get_or rest 0 0) (get_or rest 1 0) ≡ Some x
    → bytes_from word ≡ and_then (bytes_from rest) (λ bs. Some (chunk ++ bs))
    → bytes_from word ≡ and_then (bytes_from (take (length rest - 2) (drop 2 rest))) (λ bs. Some (next ++ bs))
onward word [] chunk next x q h p e = absurd (omega arith)
onward word (a ∷ []) chunk next x q h p e = absurd (omega arith)
onward word (a ∷ b ∷ rest) chunk next x q h p e =
    let n : suc (suc (length rest)) - 2 ≡ length rest = omega arith in
    let same : take (suc (suc (length rest)) - 2) rest ≡ rest = ap (λ (m : ℕ). take m rest) n ∙ take_all (length rest) rest (omega arith) in
    e ∙ ap (λ (r : Option ℕ). and_then (and_then r (λ y. and_then (bytes_from rest) (λ bs. Some (y ∷ bs)))) (λ bs. Some (chunk ++ bs))) p
    ∙ glued (bytes_from rest) chunk x
    ∙ ap (λ (ys : List ℕ). and_then (bytes_from ys) (λ bs. Some ((chunk ++ x ∷ []) ++ bs))) (sym same)
    ∙ ap (λ (c : List ℕ). and_then (bytes_from (take (suc (suc (length rest)) - 2) rest)) (λ bs. Some (c ++ bs))) (sym q)

pub room_more : (rest chunk next : List ℕ) (x : ℕ) → next ≡ chunk ++ x ∷ [] → 2 ≤ length rest → length chunk * 2 + length rest ≤ 512
    → length next * 2 + length (take (length rest - 2) (drop 2 rest)) ≤ 512
room_more rest chunk next x q h r = omega (arith, ap length q, length-append chunk (x ∷ []), length-take (length rest - 2) (drop 2 rest), length-drop 2 rest)
