use Rattle.std.proofs.Common.{rules}
use Rattle.text_cells.proofs.Rowing.{few_blanks}
use Rattle.text_cells.proofs.row.put_blanks.Goals as goal

pub returns : goal.returns
returns g c = few_blanks _ _ c.args.count _ (search rules) c.put.ensures
