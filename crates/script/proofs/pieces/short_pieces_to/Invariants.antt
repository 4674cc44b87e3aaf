use Rattle.std.proofs.Common.{◌≡◌, ◌++◌, ◌≤◌, ◌<◌, ℕ, map, drop, get_or}
use Rattle.script.specs.Pieces as spec
use Rattle.script.proofs.pieces.short_pieces_to.Given as goal

abbrev pub invariant-loop-index : goal.invariant-loop-index
invariant-loop-index g l = record {
  ordered : l.start ≤ l.index;
  parts : map (λ p. p.now) l.found.items ++ spec.pieces l.separator (drop l.start l.bytes) ≡ spec.pieces l.separator l.bytes;
  before : (k : ℕ) → l.start ≤ k → k < l.index → get_or l.bytes k 0 ≡ l.separator → ⊥;
  unrefused : g.S.Supply.refused l.supply ≡ g.S.Supply.refused l.fn.supply;
}
