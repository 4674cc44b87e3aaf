-- The digits of a number that are put.
use Rattle.std.proofs.Common.{◌≡◌, ℕ, ◌+◌, ◌-◌, ◌≤◌, List, take, drop, ap, ◌∙◌, arith}
use Rattle.std.proofs.lemmas.List.{take_rest, drop-drop}
use Rattle.record_text.specs.Numbers.{digit_count, sixteen_digits, hexadecimal, eight_digits}

pub many_is : (n count : ℕ) (digits : List ℕ) → digits ≡ sixteen_digits n → count ≡ digit_count n
    → take (16 - (16 - count)) (drop (16 - count) digits) ≡ hexadecimal n
unfolding hexadecimal
many_is n count digits d c =
    ap (λ (ds : List ℕ). take (16 - (16 - count)) (drop (16 - count) ds)) d
    ∙ ap (λ (k : ℕ). take (16 - (16 - k)) (drop (16 - k) (sixteen_digits n))) c
    ∙ take_rest (sixteen_digits n) (16 - digit_count n)

pub few_is : (n count : ℕ) (digits : List ℕ) → digits ≡ drop 12 (sixteen_digits n) → count ≡ digit_count n → count ≤ 4
    → take (4 - (4 - count)) (drop (4 - count) digits) ≡ hexadecimal n
unfolding hexadecimal
few_is n count digits d c most =
    let from : 12 + (4 - count) ≡ 16 - digit_count n = omega (arith, c, most) in
    ap (λ (ds : List ℕ). take (4 - (4 - count)) (drop (4 - count) ds)) d
    ∙ take_rest (drop 12 (sixteen_digits n)) (4 - count)
    ∙ drop-drop (4 - count) 12 (sixteen_digits n)
    ∙ ap (λ (k : ℕ). drop k (sixteen_digits n)) from

pub one_is : (n : ℕ) (digits : List ℕ) → digits ≡ drop 15 (sixteen_digits n) → 1 ≡ digit_count n → digits ≡ hexadecimal n
unfolding hexadecimal
one_is n digits d c = d ∙ ap (λ (k : ℕ). drop (16 - k) (sixteen_digits n)) c
