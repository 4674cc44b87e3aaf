use Rattle.std.proofs.lemmas.List.{take-replicate}
use Rattle.script_text.proofs.Printing.{same_text}
use Rattle.record_text.proofs.number.put_blanks.Goals as goal

pub returns : goal.returns
returns g c = same_text _ _ _ _ _ (take-replicate c.args.count 64 32 c.requires) c.put.ensures
