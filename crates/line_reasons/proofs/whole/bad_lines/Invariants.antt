use Rattle.std.proofs.Common.{◌≡◌, ◌-◌, drop, length, map}
use Rattle.std.specs.List.{list_any}
use Rattle.script.specs.Parsing.{has_words}
use Rattle.script.specs.Pieces.{lines_of}
use Rattle.line_reasons.specs.Telling.{told_as, told_until}
use Rattle.line_reasons.proofs.Walking.{IsCheckedAt}
use Rattle.line_reasons.proofs.whole.bad_lines.Given as goal

abbrev pub invariant-lines : goal.invariant-lines
invariant-lines g l = record {
  checked : IsCheckedAt (lines_of l.text) l.number l.walk.checker;
  told : map told_as l.walk.found.items ≡ told_until (lines_of l.text) l.number;
  words : l.walk.some_words ≡ list_any has_words (lines_of l.text);
  rest : drop l.number (lines_of l.text) ≡ lines_of l.rest;
}

abbrev pub decreases-lines : goal.decreases-lines
decreases-lines g l = length (lines_of l.text) - l.number
