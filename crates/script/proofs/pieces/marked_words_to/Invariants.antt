use Rattle.std.proofs.Common.{◌≡◌, ◌++◌, ◌+◌, ◌<◌, map, length, eqb, vec_len, vec_capacity}
use lib.Lanes.{mask_l}
use Rattle.script.specs.Pieces as spec
use Rattle.script.proofs.pieces.marked_words_to.Given as goal

abbrev pub invariant-loop-blanks : goal.invariant-loop-blanks
invariant-loop-blanks g l = record {
  marked : l.blanks ≡ mask_l (map (λ x. eqb x 32) l.rest);
  few : length l.rest < 16;
  room : vec_len l.found + length l.rest < vec_capacity l.found;
  parts : map (λ p. p.now) l.found.items ++ spec.words_between_blanks l.rest ≡ spec.words_between_blanks l.line;
  unrefused : g.S.Supply.refused l.supply ≡ g.S.Supply.refused l.fn.supply;
}

abbrev pub decreases-loop-blanks : goal.decreases-loop-blanks
decreases-loop-blanks g l = length l.rest
