-- Texts that are escaped, byte by byte.
use Rattle.std.proofs.Common.{◌≡◌, ℕ, ◌+◌, ◌<◌, ◌≤◌, ◌==◌, Bool, true, false, not, ◌&&◌, ◌||◌, List, [], ◌∷◌, ◌++◌, take, length, get_or, codes, refl, sym, ap, ◌∙◌, append_assoc, append-nil, if◌then◌else◌}
use Rattle.std.specs.List.{flat_map}
use Rattle.std.specs.Str.{is_utf8, IsUtf8}
use Rattle.std.proofs.lemmas.List.{take_more, take_all}
use Rattle.std.proofs.lemmas.Str.{IsUtf8-from_is_utf8}
use Rattle.std.proofs.lemmas.Grind.{flat_map-append}
use Rattle.page_text.specs.Escapes.{replacement, is_forbidden, is_stray, escaped_byte, escaped}
use Rattle.page_text.specs.Harmless.{names_character, is_harmless}

flat-more : (f : ℕ → List ℕ) (xs : List ℕ) (x : ℕ) → flat_map f (xs ++ x ∷ []) ≡ flat_map f xs ++ f x
flat-more f xs x = flat_map-append f xs (x ∷ []) ∙ ap (λ (t : List ℕ). flat_map f xs ++ t) (append-nil (f x))

-- one byte more
one_more : (f : ℕ → List ℕ) (text : List ℕ) (i : ℕ) → i < length text → flat_map f (take (i + 1) text) ≡ flat_map f (take i text) ++ f (get_or text i 0)
one_more f text i lt = ap (flat_map f) (take_more text i 0 lt) ∙ flat-more f (take i text) (get_or text i 0)

pub added_more : (f : ℕ → List ℕ) (before now next text : List ℕ) (i : ℕ) → i < length text → now ≡ before ++ flat_map f (take i text)
    → next ≡ now ++ f (get_or text i 0) → next ≡ before ++ flat_map f (take (i + 1) text)
added_more f before now next text i lt is e =
    e ∙ ap (λ (t : List ℕ). t ++ f (get_or text i 0)) is ∙ append_assoc before (flat_map f (take i text)) (f (get_or text i 0))
    ∙ ap (λ (t : List ℕ). before ++ t) (sym (one_more f text i lt))

-- all bytes
pub added_all : (utf8 : Bool) (before now text : List ℕ) (i : ℕ) → utf8 ≡ is_utf8 text → length text ≤ i
    → now ≡ before ++ flat_map (escaped_byte utf8) (take i text) → now ≡ before ++ escaped text
unfolding escaped
added_all utf8 before now text i valid all is =
    is ∙ ap (λ (t : List ℕ). before ++ flat_map (escaped_byte utf8) t) (take_all i text all)
    ∙ ap (λ (v : Bool). before ++ flat_map (escaped_byte v) text) valid

pub not_utf8 : (text : List ℕ) → ¬ (IsUtf8 text) → is_utf8 text ≡ false
not_utf8 text other = by_cases (is_utf8 text) refl
  where
    by_cases : (b : Bool) → is_utf8 text ≡ b → is_utf8 text ≡ false
    by_cases true e = absurd (other (IsUtf8-from_is_utf8 text e))
    by_cases false e = e

-- a byte that is none of the four stands for itself
itself : (less more quote ampersand tail names : Bool) → less ≡ false → more ≡ false → quote ≡ false → ampersand ≡ false → tail ≡ true
    → (not less && not more && not quote && (if ampersand then names else true)) && tail ≡ true
itself true more quote ampersand tail names a b c d e = absurd (cc)
itself false true quote ampersand tail names a b c d e = absurd (cc)
itself false false true ampersand tail names a b c d e = absurd (cc)
itself false false false true tail names a b c d e = absurd (cc)
itself false false false false false names a b c d e = absurd (cc)
itself false false false false true names a b c d e = refl

-- a byte that is escaped, before a text that is harmless
byte_is_harmless : (utf8 : Bool) (byte : ℕ) (rest : List ℕ) → is_harmless rest ≡ true → is_harmless (escaped_byte utf8 byte ++ rest) ≡ true
byte_is_harmless utf8 byte rest h = go (byte == 60) (byte == 62) (byte == 38) (byte == 34) (is_forbidden byte || is_stray utf8 byte) refl refl refl refl
  where
    go : (less more ampersand quote replaced : Bool) → byte == 60 ≡ less → byte == 62 ≡ more → byte == 38 ≡ ampersand → byte == 34 ≡ quote
        → is_harmless ((if less then codes "&lt;" else (if more then codes "&gt;" else (if ampersand then codes "&amp;" else
        (if quote then codes "&quot;" else (if replaced then replacement else byte ∷ []))))) ++ rest) ≡ true
    go true more ampersand quote replaced a b c d = h
    go false true ampersand quote replaced a b c d = h
    go false false true quote replaced a b c d = h
    go false false false true replaced a b c d = h
    go false false false false true a b c d = h
    go false false false false false a b c d = itself (byte == 60) (byte == 62) (byte == 34) (byte == 38) (is_harmless rest) (names_character rest) a b d c h

bytes_are_harmless : (utf8 : Bool) (text : List ℕ) → is_harmless (flat_map (escaped_byte utf8) text) ≡ true
bytes_are_harmless utf8 [] = refl
bytes_are_harmless utf8 (byte ∷ text) = byte_is_harmless utf8 byte (flat_map (escaped_byte utf8) text) (bytes_are_harmless utf8 text)

pub always_harmless : (text : List ℕ) → is_harmless (escaped text) ≡ true
unfolding escaped
always_harmless text = bytes_are_harmless (is_utf8 text) text
