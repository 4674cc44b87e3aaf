use Rattle.std.proofs.Common.{List, ℕ, ◌++◌, codes, ap, true, false}
use Rattle.script_text.proofs.Printing.{same_text, failed_so}
use Rattle.streams.proofs.Sinking.{takes_then}
use Rattle.trace_driver.specs.Driver as spec
use Rattle.trace_driver.proofs.driver.put_some_gap.Goals as goal

pub returns-then-put_both : goal.returns-then-put_both
returns-then-put_both g c =
    takes_then _ _ _ (codes "       " ++ spec.ellipsis c.args.drawing) (spec.events_text c.args.count) _
    (same_text _ _ _ _ true (ap (λ (text : List ℕ). codes "       " ++ text) c.ellipsis.ensures) c.if-put_both.ensures) c.put_events.ensures

pub returns-else-put_both : goal.returns-else-put_both
returns-else-put_both g c =
    failed_so _ _ (codes "       " ++ spec.ellipsis c.args.drawing) (spec.events_text c.args.count) _ c.if-put_both.false
    (same_text _ _ _ _ false (ap (λ (text : List ℕ). codes "       " ++ text) c.ellipsis.ensures) c.if-put_both.ensures)
