use Rattle.std.proofs.Common.{ap, sym}
use Rattle.script_text.specs.Text as spec
use Rattle.script_text.proofs.Printing.{same_text}
use Rattle.script_text.proofs.put_storage_fault.Goals as goal

pub returns-in-Addressing : goal.returns-in-Addressing
returns-in-Addressing g c = same_text _ _ _ _ _ (ap spec.storage_text (sym c.in-Addressing.is)) c.put.ensures

pub returns-in-Protection : goal.returns-in-Protection
returns-in-Protection g c =
    same_text _ _ _ _ _ (ap spec.storage_text (sym c.in-Protection.is)) c.put-in-Protection.ensures

pub returns-in-Specification : goal.returns-in-Specification
returns-in-Specification g c =
    same_text _ _ _ _ _ (ap spec.storage_text (sym c.in-Specification.is)) c.put-in-Specification.ensures
