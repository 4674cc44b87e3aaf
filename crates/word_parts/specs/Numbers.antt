-- Numbers in hexadecimal digits.
use Rattle.std.specs.Prelude.{ℕ, ◌+◌, ◌-◌, ◌/◌, ◌%◌, nat_lt, List, [], ◌∷◌, drop, max, if◌then◌else◌}

-- 0 to 9 and A to F
abbrev pub hex_digit : ℕ → ℕ
hex_digit d = if nat_lt d 10 then 48 + d else 55 + d

-- the eight digits of a word
abbrev pub hex_digits : ℕ → List ℕ
hex_digits n = hex_digit (n / 0x10000000 % 16) ∷ hex_digit (n / 0x1000000 % 16) ∷ hex_digit (n / 0x100000 % 16) ∷ hex_digit (n / 0x10000 % 16)
    ∷ hex_digit (n / 0x1000 % 16) ∷ hex_digit (n / 0x100 % 16) ∷ hex_digit (n / 0x10 % 16) ∷ hex_digit (n % 16) ∷ []

-- how many digits a number needs
abbrev pub digit_count : ℕ → ℕ
digit_count n =
    if nat_lt n 0x10 then 1
    else if nat_lt n 0x100 then 2
    else if nat_lt n 0x1000 then 3
    else if nat_lt n 0x10000 then 4
    else if nat_lt n 0x100000 then 5
    else if nat_lt n 0x1000000 then 6
    else if nat_lt n 0x10000000 then 7
    else 8

-- as many as it needs, and so many at least
abbrev pub hex_text : ℕ → ℕ → List ℕ
hex_text least n = drop (8 - max least (digit_count n)) (hex_digits n)
