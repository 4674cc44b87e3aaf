use Rattle.std.proofs.Common.{List, ℕ, ◌++◌, codes, ap, true}
use Rattle.record_text.specs.Names.{subchannel_text}
use Rattle.script_text.proofs.Printing.{same_text}
use Rattle.streams.proofs.Sinking.{takes_then}
use Rattle.trace_driver.specs.Driver as spec
use Rattle.trace_driver.proofs.driver.put_requesting.Goals as goal

pub returns-then-put_both : goal.returns-then-put_both
returns-then-put_both g c =
    takes_then _ _ _ (spec.bolt c.args.drawing ++ codes " a request for an I/O interruption, subchannel ") (subchannel_text c.args.parties.now c.args.subchannel) _
    (same_text _ _ _ _ true (ap (λ (bolt : List ℕ). bolt ++ codes " a request for an I/O interruption, subchannel ") c.bolt.ensures) c.if-put_both.ensures) c.put_subchannel.ensures
