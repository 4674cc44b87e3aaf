use Rattle.std.proofs.Common.{◌≡◌, ◌++◌, None, replicate}
use Rattle.lookup.proofs.tables.empty_table.Given as goal

-- what is left completes the table
abbrev pub invariant-loop-left : goal.invariant-loop-left
invariant-loop-left g l = record {
  entries : l.table.items ++ replicate l.left None ≡ replicate l.fn.entries None;
  unrefused : g.S.Supply.refused l.supply ≡ g.S.Supply.refused l.fn.supply;
}

abbrev pub decreases-loop-left : goal.decreases-loop-left
decreases-loop-left g l = l.left
