use Rattle.std.proofs.Common.{◌≡◌, ◌≤◌, ◌++◌, length, map}
use Rattle.script.specs.Pieces.{words_between_blanks}
use Rattle.trace_selection.proofs.subject.words_of.Given as goal

abbrev pub invariant-loop-rest : goal.invariant-loop-rest
invariant-loop-rest l =
    (length l.words.items ≤ 8) × (length l.rest ≤ length l.line) × (map (λ w. w.now) l.words.items ++ words_between_blanks l.rest ≡ words_between_blanks l.line)

abbrev pub decreases-loop-rest : goal.decreases-loop-rest
decreases-loop-rest l = length l.rest
