use Rattle.std.proofs.Common.{◌≡◌}
use Rattle.step_records.proofs.script_lines.starts_of.Given as goal

abbrev pub invariant-loop-index : goal.invariant-loop-index
invariant-loop-index g l = g.S.Supply.refused l.supply ≡ g.S.Supply.refused l.fn.supply
