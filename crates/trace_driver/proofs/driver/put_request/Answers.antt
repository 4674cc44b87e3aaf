use Rattle.std.proofs.Common.{ℕ, ◌++◌, codes, ap}
use Rattle.record_text.specs.Numbers.{hexadecimal}
use Rattle.script_text.proofs.Printing.{same_text}
use Rattle.streams.proofs.Sinking.{takes_then}
use Rattle.trace_driver.specs.Driver as spec
use Rattle.trace_driver.proofs.driver.put_request.Goals as goal

pub returns-then-put_requesting : goal.returns-then-put_requesting
returns-then-put_requesting g c =
    takes_then _ _ _ (spec.requesting_text c.args.parties.now c.args.drawing c.args.subchannel) (codes ", subclass " ++ hexadecimal c.args.subclass) _ c.if-put_requesting.ensures
    (same_text _ _ _ _ _ (ap (λ (n : ℕ). codes ", subclass " ++ hexadecimal n) c.from.ensures) c.put_named.ensures)
