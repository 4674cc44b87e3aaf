use Rattle.std.proofs.Common.{ap, sym}
use Rattle.script_text.proofs.Printing.{same_text}
use Rattle.event_lines.specs.EventLines as spec
use Rattle.event_lines.proofs.putting.put_other.Goals as goal

pub returns-in-Tpi : goal.returns-in-Tpi
returns-in-Tpi g c = same_text _ _ _ _ _ (ap (λ e. spec.spaced (spec.other_words e)) (sym c.in-Tpi.is)) c.put_tpi.ensures

pub returns-in-Rchp : goal.returns-in-Rchp
returns-in-Rchp g c = same_text _ _ _ _ _ (ap (λ e. spec.spaced (spec.other_words e)) (sym c.in-Rchp.is)) c.put_named.ensures

pub returns-in-Stcrw : goal.returns-in-Stcrw
returns-in-Stcrw g c = same_text _ _ _ _ _ (ap (λ e. spec.spaced (spec.other_words e)) (sym c.in-Stcrw.is)) c.put_named-in-Stcrw.ensures

pub returns-in-Stcps : goal.returns-in-Stcps
returns-in-Stcps g c = same_text _ _ _ _ _ (ap (λ e. spec.spaced (spec.other_words e)) (sym c.in-Stcps.is)) c.put_named-in-Stcps.ensures
