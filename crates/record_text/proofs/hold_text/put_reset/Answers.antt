use Rattle.std.proofs.Common.{ℕ, Some, ap, sym, ◌∙◌}
use Rattle.script_text.proofs.Printing.{same_text}
use Rattle.record_text.specs.Holds as spec
use Rattle.record_text.proofs.hold_text.put_reset.Goals as goal

pub returns-in-None : goal.returns-in-None
returns-in-None g c = same_text _ _ _ _ _ (ap (spec.reset_text c.args.number) (sym c.in-None.is)) c.put_named.ensures

pub returns-in-Some : goal.returns-in-Some
returns-in-Some g c =
    same_text _ _ _ _ _ (ap (λ (k : ℕ). spec.reset_text c.args.number (Some k)) c.index.ensures.value ∙ ap (spec.reset_text c.args.number) (sym c.in-Some.is)) c.put_two.ensures
