use Rattle.std.proofs.Common.{ℕ, ap}
use Rattle.script_text.proofs.Printing.{same_text}
use Rattle.record_text.specs.Holds as spec
use Rattle.record_text.proofs.hold_text.put_on.Goals as goal

pub returns : goal.returns
returns g c = same_text _ _ _ _ _ (ap (λ (k : ℕ). spec.on_text c.args.number k c.args.connection) c.index.ensures.value) c.put_three.ensures
