use Rattle.std.proofs.Common.{◌≡◌, []}
use Rattle.std.specs.Prelude.{replicate}
use Rattle.wires.proofs.downs.Downs.on_each_path.Given as goal

-- the rings so far are empty
abbrev pub invariant-loop-path : goal.invariant-loop-path
invariant-loop-path g l = record {
  made : l.rings.items ≡ replicate l._path [];
  unrefused : g.S.Supply.refused l.supply ≡ g.S.Supply.refused l.fn.supply;
}
