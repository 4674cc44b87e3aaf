use Rattle.std.proofs.Common.{◌≡◌, ◌++◌, map, drop, Some}
use Rattle.script_rows.specs.Words as spec
use Rattle.script_rows.proofs.words.numbers_of.Given as goal

abbrev pub invariant-loop-word : goal.invariant-loop-word
invariant-loop-word g l = record {
  says : spec.numbers_of (map (λ w. w.now) l.words) ≡ spec.and_then (spec.numbers_of (map (λ w. w.now) (drop l.word-index l.words))) (λ ns. Some (l.found ++ ns));
  unrefused : g.S.Supply.refused l.supply ≡ g.S.Supply.refused l.fn.supply;
}
