use Rattle.std.proofs.Common.{◌++◌, codes, decimal}
use Rattle.streams.proofs.Sinking.{takes_then}
use Rattle.script_text.proofs.Printing.{failed_so}
use Rattle.script_text.proofs.race.put_codes.Goals as goal

pub returns-then-put_numbers : goal.returns-then-put_numbers
returns-then-put_numbers g c =
    let race = c.args.race.now in
    takes_then _ _ _ (codes "race cc0 " ++ decimal race.zero ++ codes " cc1 " ++ decimal race.one) (codes " cc2 " ++ decimal race.two ++ codes " cc3 " ++ decimal race.three) _
    c.if-put_numbers.ensures c.put_numbers-then-put_numbers.ensures

pub returns-else-put_numbers : goal.returns-else-put_numbers
returns-else-put_numbers g c =
    let race = c.args.race.now in
    failed_so _ _ (codes "race cc0 " ++ decimal race.zero ++ codes " cc1 " ++ decimal race.one) (codes " cc2 " ++ decimal race.two ++ codes " cc3 " ++ decimal race.three) _
    c.if-put_numbers.false c.if-put_numbers.ensures
