-- What a word of a line stands for, and how many words a line has (own).
use Rattle.std.specs.Prelude.{ℕ, ◌+◌, ◌-◌, ◌*◌, ◌&&◌, nat_lt, nat_le, List, [], ◌∷◌, length, Option, Some, None, option_map, ok_or, Result, Ok, Err, if◌then◌else◌}
use Rattle.std.specs.Str.{bytes_eq}
use Rattle.script_rows.specs.declared.words.LineRule.{LineRule}
use Rattle.script_rows.specs.declared.words.LineRule.TheVariants.{WrongCount, BadWord}

abbrev pub and_then : {A B : Type 0} → Option A → (A → Option B) → Option B
and_then None f = None
and_then (Some x) f = f x

-- a hexadecimal digit in either case
abbrev pub hex_value : ℕ → Option ℕ
hex_value b = if nat_le 48 b && nat_le b 57 then Some (b - 48)
    else (if nat_le 65 b && nat_le b 70 then Some (b - 55)
    else (if nat_le 97 b && nat_le b 102 then Some (b - 87) else None))

abbrev pub hex_from : ℕ → List ℕ → Option ℕ
hex_from high [] = Some high
hex_from high (b ∷ bs) = and_then (hex_value b) (λ d. hex_from (high * 16 + d) bs)

-- a number of 1 to 8 hexadecimal digits
abbrev pub number : List ℕ → Option ℕ
number word = if nat_lt 0 (length word) && nat_le (length word) 8 then hex_from 0 word else None

-- a number that is at most this
abbrev pub number_up_to : ℕ → List ℕ → Option ℕ
number_up_to most word = and_then (number word) (λ n. if nat_le n most then Some n else None)

-- a number of 1 to 8 decimal digits
abbrev pub decimal_value : ℕ → Option ℕ
decimal_value b = if nat_le 48 b && nat_le b 57 then Some (b - 48) else None

abbrev pub decimal_from : ℕ → List ℕ → Option ℕ
decimal_from high [] = Some high
decimal_from high (b ∷ bs) = and_then (decimal_value b) (λ d. decimal_from (high * 10 + d) bs)

abbrev pub decimal_number : List ℕ → Option ℕ
decimal_number word = if nat_lt 0 (length word) && nat_le (length word) 8 then decimal_from 0 word else None

-- how often, from once to so many times, in decimal
abbrev pub times_up_to : ℕ → List ℕ → Option ℕ
times_up_to most word = and_then (decimal_number word) (λ n. if nat_le 1 n && nat_le n most then Some n else None)

-- each word is a number
abbrev pub numbers_of : List (List ℕ) → Option (List ℕ)
numbers_of [] = Some []
numbers_of (word ∷ words) = and_then (number word) (λ n. and_then (numbers_of words) (λ ns. Some (n ∷ ns)))

-- a byte of two digits
abbrev pub pair_value : ℕ → ℕ → Option ℕ
pair_value a b = and_then (hex_value a) (λ high. and_then (hex_value b) (λ low. Some (high * 16 + low)))

-- bytes of two digits each
abbrev pub bytes_from : List ℕ → Option (List ℕ)
bytes_from [] = Some []
bytes_from (a ∷ []) = None
bytes_from (a ∷ b ∷ rest) = and_then (pair_value a b) (λ x. and_then (bytes_from rest) (λ bs. Some (x ∷ bs)))

-- 1 to 256 bytes
abbrev pub hex_bytes : List ℕ → Option (List ℕ)
hex_bytes word = if nat_lt 0 (length word) && nat_le (length word) 512 then bytes_from word else None

-- a subchannel: up to 4 digits SSSS stand for the word 0001SSSS, 5 to 8 digits are the whole word
abbrev pub subchannel : List ℕ → Option ℕ
subchannel word = and_then (number word) (λ n. Some (if nat_le (length word) 4 then 0x10000 + n else n))

-- the only words of a line, so many of them
abbrev pub one_of : List (List ℕ) → Option (List ℕ)
one_of (a ∷ []) = Some a
one_of words = None

abbrev pub two_of : List (List ℕ) → Option (List ℕ × List ℕ)
two_of (a ∷ b ∷ []) = Some (a, b)
two_of words = None

abbrev pub three_of : List (List ℕ) → Option (List ℕ × List ℕ × List ℕ)
three_of (a ∷ b ∷ c ∷ []) = Some (a, b, c)
three_of words = None

abbrev pub four_of : List (List ℕ) → Option (List ℕ × List ℕ × List ℕ × List ℕ)
four_of (a ∷ b ∷ c ∷ d ∷ []) = Some (a, b, c, d)
four_of words = None

-- there are not as many words as there should be, or a word is not what it should be
abbrev pub says_of : {A B : Type 0} → Option A → (A → Option B) → Result B LineRule
says_of None says = Err WrongCount
says_of (Some words) says = ok_or (says words) BadWord

-- no words
abbrev pub with_none : {A : Type 0} → A → List (List ℕ) → Result A LineRule
with_none said [] = Ok said
with_none said words = Err WrongCount

-- what so many words say of what they are, where each is what it should be
abbrev pub with_one : {A B : Type 0} → (List ℕ → Option A) → (A → B) → List (List ℕ) → Result B LineRule
with_one first says words = says_of (one_of words) (λ w. option_map says (first w))

abbrev pub with_two : {A B C : Type 0} → (List ℕ → Option A) → (List ℕ → Option B) → (A → B → C) → List (List ℕ) → Result C LineRule
with_two first second says words = says_of (two_of words) (λ w. and_then (first w.0) (λ a. option_map (says a) (second w.1)))

abbrev pub with_three : {A B C D : Type 0} → (List ℕ → Option A) → (List ℕ → Option B) → (List ℕ → Option C) → (A → B → C → D)
    → List (List ℕ) → Result D LineRule
with_three first second third says words =
    says_of (three_of words) (λ w. and_then (first w.0) (λ a. and_then (second w.1) (λ b. option_map (says a b) (third w.2))))

-- what a name stands for in a table
abbrev pub named : {A : Type 0} → List (List ℕ × A) → List ℕ → Option A
named [] word = None
named (row ∷ rows) word = if bytes_eq word row.0 then Some row.1 else named rows word

-- a row of a table of lines: a first word, and what the other words of its line say
abbrev pub Row : Type 0 → Type 0
Row A = List ℕ × (List (List ℕ) → Result A LineRule)

-- what a line says by the row of its first word, where the table has one
abbrev pub row_of : {A : Type 0} → List (Row A) → List ℕ → List (List ℕ) → Option (Result A LineRule)
row_of rows w ws = option_map (λ says. says ws) (named rows w)
