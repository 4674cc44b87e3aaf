use Rattle.std.proofs.Common.{◌≡◌, length}
use Rattle.std.specs.List.{list_any}
use Rattle.script.specs.Pieces.{lines_of}
use Rattle.script.specs.Parsing.{has_words}
use Rattle.script.proofs.text.some_have_words.Given as goal

abbrev pub invariant-lines : goal.invariant-lines
invariant-lines l = list_any has_words (lines_of l.rest) ≡ list_any has_words (lines_of l.text)

abbrev pub decreases-lines : goal.decreases-lines
decreases-lines l = length (lines_of l.rest)
