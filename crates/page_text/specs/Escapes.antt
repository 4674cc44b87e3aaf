-- How the bytes of a text stand in a page of HTML.
use Rattle.std.specs.Prelude.{ℕ, ◌==◌, nat_lt, Bool, not, ◌&&◌, ◌||◌, List, [], ◌∷◌, codes, if◌then◌else◌}
use Rattle.std.specs.List.{flat_map}
use Rattle.std.specs.Str.{is_utf8}

-- U+FFFD, the replacement character, in UTF-8
abbrev pub replacement : List ℕ
replacement = 0xEF ∷ 0xBF ∷ 0xBD ∷ []

-- a control character that HTML forbids: each but the tab and the line feed
abbrev pub is_forbidden : ℕ → Bool
is_forbidden byte = nat_lt byte 9 || (nat_lt 10 byte && nat_lt byte 32) || byte == 127

-- a byte that is part of no character: one above 127, in a text that is not UTF-8
abbrev pub is_stray : Bool → ℕ → Bool
is_stray utf8 byte = not utf8 && nat_lt 127 byte

-- a byte of a text, of which it is known whether it is UTF-8
abbrev pub escaped_byte : Bool → ℕ → List ℕ
escaped_byte utf8 byte =
    if byte == 60 then codes "&lt;" else
    (if byte == 62 then codes "&gt;" else
    (if byte == 38 then codes "&amp;" else
    (if byte == 34 then codes "&quot;" else
    (if is_forbidden byte || is_stray utf8 byte then replacement else byte ∷ []))))

unfoldable pub escaped : List ℕ → List ℕ
escaped text = flat_map (escaped_byte (is_utf8 text)) text
