use Rattle.std.proofs.Common.{◌∷◌, decimal}
use Rattle.script_text.proofs.Printing.{same_text, failed_so}
use Rattle.streams.proofs.Sinking.{takes_then}
use Rattle.trace_driver.specs.Driver as spec
use Rattle.trace_driver.proofs.driver.put_events.Goals as goal

pub returns-then-put_spaced : goal.returns-then-put_spaced
returns-then-put_spaced g c =
    takes_then _ _ _ (32 ∷ decimal c.args.count) (spec.events_name c.args.count) _ c.if-put_spaced.ensures (same_text _ _ _ _ _ c.events_name.ensures c.put.ensures)

pub returns-else-put_spaced : goal.returns-else-put_spaced
returns-else-put_spaced g c =
    failed_so _ _ (32 ∷ decimal c.args.count) (spec.events_name c.args.count) _ c.if-put_spaced.false c.if-put_spaced.ensures
