use Rattle.std.proofs.Common.{arith, sym, ap, ◌∙◌}
use Rattle.glance_cell.specs.declared.cell.Cell.{Cell}
use Rattle.glance_cell.proofs.Moves.{watches}
use Rattle.glance_cell.proofs.cell.Writer.reader.Goals as goal

pub split_seat-seat-requires : goal.split_seat-seat-requires
split_seat-seat-requires c =
    let i = c.self.invariant in
    (i.0 ∙ ap (λ (x : Cell). x.table.shared.table_id) (sym c.deref.ensures), omega (arith, c.deref.result.now.shape.0), watches _ _ i.2)
