use Rattle.std.proofs.Common.{ap, sym}
use Rattle.script_text.proofs.Printing.{same_text}
use Rattle.record_text.specs.SignalFields as spec
use Rattle.record_text.proofs.signal_fields.put_up.Goals as goal

pub returns-in-Released : goal.returns-in-Released
returns-in-Released g c = same_text _ _ _ _ _ (ap spec.up_fields (sym c.in-Released.is)) c.put_named-in-Released.ensures
