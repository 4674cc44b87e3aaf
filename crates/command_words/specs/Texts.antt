-- The text for words that name no command (own).
use Rattle.std.specs.Prelude.{ℕ, List}
use Rattle.std.specs.String.{string_bytes}
use Rattle.command_words.specs.declared.Refused.{Refused}
use Rattle.command_words.specs.declared.Refused.TheVariants.{Text, NoMemory}

-- what a text may be, by the words that it is about
abbrev pub Telling : Type 1
Telling = List (List ℕ) → List ℕ → Type 0

-- `clap` promises nothing of its texts
abbrev pub SaysAnything : Telling
SaysAnything words text = Unit {0}

-- a text is one that may be told of the words
abbrev pub IsTold : Telling → List (List ℕ) → Refused → Type 0
IsTold tells words (Text text) = tells words (string_bytes text)
IsTold tells words NoMemory = Unit {0}
