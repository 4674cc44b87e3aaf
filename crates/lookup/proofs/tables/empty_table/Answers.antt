use Rattle.std.proofs.Common.{◌≤◌, ◌∙◌, arith}
use Rattle.lookup.proofs.Filling.{portion-added}
use Rattle.lookup.proofs.tables.empty_table.Goals as goal

pub loop-left-preserved : goal.loop-left-preserved
loop-left-preserved g c =
    let within : c.min-more.result ≤ c.loop-left.left = omega (arith, c.min-more.ensures) in
    record {
      entries = portion-added c.args.entries c.loop-left.left c.min-more.result c.loop-left.table.items c.add_empty.new.table.items within c.in_ok-add_empty.ensures.added c.loop-left.invariant.entries;
      unrefused = c.in_ok-add_empty.ensures.unrefused ∙ c.loop-left.invariant.unrefused;
    }
