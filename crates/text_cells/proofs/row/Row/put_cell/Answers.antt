use Rattle.std.proofs.Common.{take, sym}
use Rattle.text_cells.proofs.Rowing.{cut_text}
use Rattle.text_cells.proofs.row.Row.put_cell.Goals as goal

pub returns-else-not-is_cut-clause-text : goal.returns-else-not-is_cut-clause-text
returns-else-not-is_cut-clause-text g c =
    cut_text _ _ _ c.args.self.now.blanks c.put.new.self.blanks c.args.cell.now.failed (take c.args.cell.now.length c.args.cell.now.room) c.text.result.now c.args.mark.now
    c.put-else-not-is_cut.result (sym c.if-not-is_cut.ensures) c.text.ensures c.put.ensures.blanks c.if-not-put.ensures.text c.put-else-not-is_cut.ensures.text
