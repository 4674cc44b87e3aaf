use Rattle.std.proofs.Common.{◌∷◌, [], ◌++◌, codes, decimal, ap}
use Rattle.streams.proofs.Sinking.{takes_then}
use Rattle.script_text.specs.Text as spec
use Rattle.script_text.proofs.Printing.{same_text, failed_so}
use Rattle.script_text.proofs.put_bad_line.Goals as goal

pub returns-then-put_numbers : goal.returns-then-put_numbers
returns-then-put_numbers g c =
    let front = codes "bad line " ++ decimal c.args.line ++ codes " rule " ++ decimal c.from.result in
    same_text _ _ _ _ _ (ap (spec.bad_text c.args.line) c.from.ensures)
    (takes_then _ _ _ front (10 ∷ []) _ c.if-put_numbers.ensures c.put.ensures)

pub returns-else-put_numbers : goal.returns-else-put_numbers
returns-else-put_numbers g c =
    let front = codes "bad line " ++ decimal c.args.line ++ codes " rule " ++ decimal c.from.result in
    same_text _ _ _ _ _ (ap (spec.bad_text c.args.line) c.from.ensures)
    (failed_so _ _ front (10 ∷ []) _ c.if-put_numbers.false c.if-put_numbers.ensures)
