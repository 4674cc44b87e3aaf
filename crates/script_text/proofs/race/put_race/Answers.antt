use Rattle.std.proofs.Common.{◌++◌, ℕ, List, codes, decimal, ap}
use Rattle.streams.proofs.Sinking.{takes_then}
use Rattle.script_text.specs.Text as spec
use Rattle.script_text.proofs.Printing.{same_text, failed_so}
use Rattle.script_text.proofs.race.put_race.Goals as goal

pub returns-then-put_codes : goal.returns-then-put_codes
returns-then-put_codes g c =
    let race = c.args.race.now in
    takes_then _ _ _ (spec.race_codes_text race) (codes " entries " ++ decimal race.entries ++ spec.audit_text race.audited) _ c.if-put_codes.ensures
    (same_text _ _ _ _ _ (ap (λ (text : List ℕ). codes " entries " ++ decimal race.entries ++ text) c.audit_text.ensures) c.put_between.ensures)

pub returns-else-put_codes : goal.returns-else-put_codes
returns-else-put_codes g c =
    let race = c.args.race.now in
    failed_so _ _ (spec.race_codes_text race) (codes " entries " ++ decimal race.entries ++ spec.audit_text race.audited) _ c.if-put_codes.false c.if-put_codes.ensures
