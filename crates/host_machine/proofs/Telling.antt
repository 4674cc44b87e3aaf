-- What a room for a text holds of it.
use Rattle.std.proofs.Common.{◌≡◌, ℕ, ◌≤◌, Bool, true, false, List, [], ◌++◌, take, length, sym, ap, ◌∙◌, arith}
use Rattle.std.specs.Prelude.{Some}
use Rattle.std.proofs.lemmas.List.{take_all, length-take}
use Rattle.streams.specs.Sinks.{Puts}

-- all of it, where it went in, and the room is full where it did not
pub told : (none room text : List ℕ) (before failed whole : Bool) (count : ℕ) → none ≡ [] → count ≤ 1024 → length room ≡ 1024 → (failed ≡ true → count ≡ 1024)
    → Puts (record { bytes = Some none; failed = before }) text (record { bytes = Some (take count room); failed = failed }) whole → take count room ≡ take 1024 text
told none room text before failed true count empty fits long full p =
    let all : take count room ≡ text = p.bytes ∙ ap (λ (front : List ℕ). front ++ text) empty in
    all ∙ sym (take_all 1024 text (omega (arith, ap length all, length-take count room)))
told none room text before failed false count empty fits long full p =
    let some : take count room ≡ take p.taken text = p.bytes ∙ ap (λ (front : List ℕ). front ++ take p.taken text) empty in
    let most : count ≡ 1024 = full p.failed in
    let taken : p.taken ≡ 1024 = omega (arith, p.fewer, ap length some, length-take count room, length-take p.taken text) in
    some ∙ ap (λ (n : ℕ). take n text) taken
