-- What the program's words ask for: two of them, its own name and a command's.
use Rattle.std.specs.Prelude.{ℕ, List, [], ◌∷◌, Option, Some, None, codes, if◌then◌else◌}
use Rattle.std.specs.Str.{bytes_eq}
use Rattle.command_words.specs.declared.Wanted.{Wanted}
use Rattle.command_words.specs.declared.Wanted.TheVariants.{Run, Race, Check}

-- the command of that name
abbrev pub named : List ℕ → Option Wanted
named word =
    if bytes_eq word (codes "run") then Some Run
    else (if bytes_eq word (codes "race") then Some Race else (if bytes_eq word (codes "check") then Some Check else None))

abbrev pub plain : List (List ℕ) → Option Wanted
plain [] = None
plain (program ∷ []) = None
plain (program ∷ word ∷ []) = named word
plain (program ∷ word ∷ more ∷ rest) = None
