-- Numbers as they are told.
use Rattle.std.specs.Prelude.{ℕ, ◌-◌, ◌/◌, ◌%◌, nat_lt, List, [], ◌∷◌, drop, if◌then◌else◌}
use Rattle.script_text.specs.Text.{hex_digit}

-- how many hexadecimal digits a number below 16^16 has
abbrev pub digit_count : ℕ → ℕ
digit_count n =
    if nat_lt n 0x10 then 1 else
    if nat_lt n 0x100 then 2 else
    if nat_lt n 0x1000 then 3 else
    if nat_lt n 0x10000 then 4 else
    if nat_lt n 0x100000 then 5 else
    if nat_lt n 0x1000000 then 6 else
    if nat_lt n 0x10000000 then 7 else
    if nat_lt n 0x100000000 then 8 else
    if nat_lt n 0x1000000000 then 9 else
    if nat_lt n 0x10000000000 then 10 else
    if nat_lt n 0x100000000000 then 11 else
    if nat_lt n 0x1000000000000 then 12 else
    if nat_lt n 0x10000000000000 then 13 else
    if nat_lt n 0x100000000000000 then 14 else
    if nat_lt n 0x1000000000000000 then 15 else
    16

-- the sixteen lowest hexadecimal digits of a number
abbrev pub sixteen_digits : ℕ → List ℕ
sixteen_digits n =
    hex_digit (n / 0x1000000000000000 % 16)
    ∷ hex_digit (n / 0x100000000000000 % 16)
    ∷ hex_digit (n / 0x10000000000000 % 16)
    ∷ hex_digit (n / 0x1000000000000 % 16)
    ∷ hex_digit (n / 0x100000000000 % 16)
    ∷ hex_digit (n / 0x10000000000 % 16)
    ∷ hex_digit (n / 0x1000000000 % 16)
    ∷ hex_digit (n / 0x100000000 % 16)
    ∷ hex_digit (n / 0x10000000 % 16)
    ∷ hex_digit (n / 0x1000000 % 16)
    ∷ hex_digit (n / 0x100000 % 16)
    ∷ hex_digit (n / 0x10000 % 16)
    ∷ hex_digit (n / 0x1000 % 16)
    ∷ hex_digit (n / 0x100 % 16)
    ∷ hex_digit (n / 0x10 % 16)
    ∷ hex_digit (n % 16) ∷ []

-- a number in hexadecimal digits, with no zeros before it
unfoldable pub hexadecimal : ℕ → List ℕ
hexadecimal n = drop (16 - digit_count n) (sixteen_digits n)

-- the eight digits of a word
unfoldable pub eight_digits : ℕ → List ℕ
eight_digits n = drop 8 (sixteen_digits n)
