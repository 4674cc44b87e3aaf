-- Digits that are printed are read back.
use Rattle.std.proofs.Common.{◌≡◌, ℕ, zero, suc, ◌+◌, ◌*◌, ◌/◌, ◌%◌, ◌<◌, ◌≤◌, List, [], ◌∷◌, length, drop, refl, ap, ◌∙◌, arith}
use Rattle.std.specs.Prelude.{Option, Some, None, nat_le, nat_lt, ◌&&◌, slice_index_or, if◌then◌else◌}
use Rattle.std.specs.List.{flat_map}
use Rattle.std.proofs.lemmas.Bool.Decides.{nat_tests}
use Rattle.script_rows.specs.Words.{and_then, bytes_from, hex_bytes, hex_from, hex_value, number, number_up_to, pair_value, subchannel}
use Rattle.script_text.specs.Text.{byte_text, hex_digit}
use Rattle.event_lines.specs.EventLines.{digit_word, eight_digits, sixteen_digits}
use Rattle.event_lines.specs.ReportLines.{long_number}
use Rattle.event_lines.specs.Speakable.{AreBytes}

pub digit_read : (d : ℕ) → d < 16 → hex_value (hex_digit d) ≡ Some d
digit_read zero lt = refl
digit_read (suc zero) lt = refl
digit_read (suc (suc zero)) lt = refl
digit_read (suc (suc (suc zero))) lt = refl
digit_read (suc (suc (suc (suc zero)))) lt = refl
digit_read (suc (suc (suc (suc (suc zero))))) lt = refl
digit_read (suc (suc (suc (suc (suc (suc zero)))))) lt = refl
digit_read (suc (suc (suc (suc (suc (suc (suc zero))))))) lt = refl
digit_read (suc (suc (suc (suc (suc (suc (suc (suc zero)))))))) lt = refl
digit_read (suc (suc (suc (suc (suc (suc (suc (suc (suc zero))))))))) lt = refl
digit_read (suc (suc (suc (suc (suc (suc (suc (suc (suc (suc zero)))))))))) lt = refl
digit_read (suc (suc (suc (suc (suc (suc (suc (suc (suc (suc (suc zero))))))))))) lt = refl
digit_read (suc (suc (suc (suc (suc (suc (suc (suc (suc (suc (suc (suc zero)))))))))))) lt = refl
digit_read (suc (suc (suc (suc (suc (suc (suc (suc (suc (suc (suc (suc (suc zero))))))))))))) lt = refl
digit_read (suc (suc (suc (suc (suc (suc (suc (suc (suc (suc (suc (suc (suc (suc zero)))))))))))))) lt = refl
digit_read (suc (suc (suc (suc (suc (suc (suc (suc (suc (suc (suc (suc (suc (suc (suc zero))))))))))))))) lt = refl
digit_read (suc (suc (suc (suc (suc (suc (suc (suc (suc (suc (suc (suc (suc (suc (suc (suc d)))))))))))))))) lt = absurd (omega arith)

-- one digit more
on : (h n d : ℕ) (rest : List ℕ) → d < 16 → h * 16 + d ≡ n → hex_from h (hex_digit d ∷ rest) ≡ hex_from n rest
on h n d rest lt is = ap (λ (o : Option ℕ). and_then o (λ x. hex_from (h * 16 + x) rest)) (digit_read d lt) ∙ ap (λ (m : ℕ). hex_from m rest) is

pub eight_read : (n : ℕ) → n < 4294967296 → hex_from 0 (eight_digits n) ≡ Some n
eight_read n lt =
    on 0 (n / 0x10000000) (n / 0x10000000 % 16) (drop 1 (eight_digits n)) (omega arith) (omega arith)
    ∙ on (n / 0x10000000) (n / 0x1000000) (n / 0x1000000 % 16) (drop 2 (eight_digits n)) (omega arith) (omega arith)
    ∙ on (n / 0x1000000) (n / 0x100000) (n / 0x100000 % 16) (drop 3 (eight_digits n)) (omega arith) (omega arith)
    ∙ on (n / 0x100000) (n / 0x10000) (n / 0x10000 % 16) (drop 4 (eight_digits n)) (omega arith) (omega arith)
    ∙ on (n / 0x10000) (n / 0x1000) (n / 0x1000 % 16) (drop 5 (eight_digits n)) (omega arith) (omega arith)
    ∙ on (n / 0x1000) (n / 0x100) (n / 0x100 % 16) (drop 6 (eight_digits n)) (omega arith) (omega arith)
    ∙ on (n / 0x100) (n / 0x10) (n / 0x10 % 16) (drop 7 (eight_digits n)) (omega arith) (omega arith)
    ∙ on (n / 0x10) n (n % 16) [] (omega arith) (omega arith)

pub word_read : (n : ℕ) → n < 4294967296 → number (eight_digits n) ≡ Some n
word_read n lt = eight_read n lt

pub subchannel_read : (n : ℕ) → n < 4294967296 → subchannel (eight_digits n) ≡ Some n
subchannel_read n lt = ap (λ (o : Option ℕ). and_then o (λ m. Some m)) (word_read n lt)

-- a number of 64 bits, by its halves
halves : (n : ℕ) → n / 0x100000000 * 0x100000000 + n % 0x100000000 ≡ n
halves n = omega arith

pub long_read : (n : ℕ) → n < 18446744073709551616 → long_number (sixteen_digits n) ≡ Some n
long_read n lt =
    ap (λ (o : Option ℕ). and_then o (λ high. and_then (number (eight_digits (n % 0x100000000))) (λ low. Some (high * 0x100000000 + low)))) (word_read (n / 0x100000000) (omega arith))
    ∙ ap (λ (o : Option ℕ). and_then o (λ low. Some (n / 0x100000000 * 0x100000000 + low))) (word_read (n % 0x100000000) (omega arith))
    ∙ ap (λ (m : ℕ). Some m) (halves n)

-- a number that is at most another
up_to : (most n : ℕ) → n ≤ most → (if nat_le n most then Some n else None) ≡ Some n
up_to most n le = grind (arith, nat_tests)

pub at_most_read : (most n : ℕ) (word : List ℕ) → n ≤ most → number word ≡ Some n → number_up_to most word ≡ Some n
at_most_read most n word le e = ap (λ (o : Option ℕ). and_then o (λ m. if nat_le m most then Some m else None)) e ∙ up_to most n le

pub byte_read : (n : ℕ) → n < 256 → number (byte_text n) ≡ Some n
byte_read n lt = on 0 (n / 0x10) (n / 0x10 % 16) (drop 1 (byte_text n)) (omega arith) (omega arith) ∙ on (n / 0x10) n (n % 16) [] (omega arith) (omega arith)

pub one_read : (n : ℕ) → n < 16 → number (digit_word n) ≡ Some n
one_read n lt = on 0 n n [] lt (omega arith)

-- bytes
pair_read : (n : ℕ) → n < 256 → pair_value (hex_digit (n / 0x10 % 16)) (hex_digit (n % 16)) ≡ Some n
pair_read n lt =
    ap (λ (o : Option ℕ). and_then o (λ high. and_then (hex_value (hex_digit (n % 16))) (λ low. Some (high * 16 + low)))) (digit_read (n / 0x10 % 16) (omega arith))
    ∙ ap (λ (o : Option ℕ). and_then o (λ low. Some (n / 0x10 % 16 * 16 + low))) (digit_read (n % 16) (omega arith))
    ∙ ap (λ (m : ℕ). Some m) (omega arith)

bytes_read_from : (bytes : List ℕ) → ((k : ℕ) → k < length bytes → slice_index_or bytes k 0 < 256) → bytes_from (flat_map byte_text bytes) ≡ Some bytes
bytes_read_from [] below = refl
bytes_read_from (b ∷ bs) below =
    ap (λ (o : Option ℕ). and_then o (λ x. and_then (bytes_from (flat_map byte_text bs)) (λ xs. Some (x ∷ xs)))) (pair_read b (below 0 (omega arith)))
    ∙ ap (λ (o : Option (List ℕ)). and_then o (λ xs. Some (b ∷ xs))) (bytes_read_from bs (λ k lt. below (suc k) (omega arith)))

pub digits_length : (bytes : List ℕ) → length (flat_map byte_text bytes) ≡ 2 * length bytes
digits_length [] = refl
digits_length (b ∷ bs) = omega (arith, digits_length bs)

fits : (n : ℕ) (word : List ℕ) (found : Option (List ℕ)) → length word ≡ 2 * n → 1 ≤ n → n ≤ 256 → (if nat_lt 0 (length word) && nat_le (length word) 512 then found else None) ≡ found
fits n word found long some most = grind (arith, nat_tests)

pub bytes_read : (bytes : List ℕ) → AreBytes bytes → 1 ≤ length bytes → hex_bytes (flat_map byte_text bytes) ≡ Some bytes
bytes_read bytes are some =
    fits (length bytes) (flat_map byte_text bytes) (bytes_from (flat_map byte_text bytes)) (digits_length bytes) some are.1
    ∙ bytes_read_from bytes (λ k lt. are.0 k 0 lt)
