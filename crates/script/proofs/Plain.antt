-- Bytes of ASCII are UTF-8.
use Rattle.std.proofs.Common.{◌≡◌, ℕ, ◌<◌, true, nat_lt, List, [], ◌∷◌, IsUtf8, subst, arith, ltb-true}
use Rattle.std.specs.List.{list_all}
use Rattle.std.proofs.lemmas.Bool.{and_parts}
use Rattle.std.proofs.lemmas.Str.{IsUtf8-append, IsUtf8-nil, IsUtf8-encode, encode_ascii}
use lib.Utf8.{low_scalar}

then-plain : (x : ℕ) (xs : List ℕ) → x < 128 → IsUtf8 xs → IsUtf8 (x ∷ xs)
then-plain x xs small u = IsUtf8-append (x ∷ []) xs (subst IsUtf8 (encode_ascii x small) (IsUtf8-encode x (low_scalar x (omega arith)))) u

pub plain-text : (xs : List ℕ) → list_all (λ b. nat_lt b 128) xs ≡ true → IsUtf8 xs
plain-text [] e = IsUtf8-nil
plain-text (x ∷ xs) e = let p = and_parts _ _ e in then-plain x xs (ltb-true _ _ p.0) (plain-text xs p.1)
