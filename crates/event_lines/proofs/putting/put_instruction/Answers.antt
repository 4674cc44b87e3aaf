use Rattle.std.proofs.Common.{ap, sym}
use Rattle.script_text.proofs.Printing.{same_text}
use Rattle.event_lines.specs.EventLines as spec
use Rattle.event_lines.proofs.putting.put_instruction.Goals as goal

pub returns-in-Ssch : goal.returns-in-Ssch
returns-in-Ssch g c = same_text _ _ _ _ _ (ap (λ e. spec.spaced (spec.instruction_words e)) (sym c.in-Ssch.is)) c.put_named.ensures

pub returns-in-Tsch : goal.returns-in-Tsch
returns-in-Tsch g c = same_text _ _ _ _ _ (ap (λ e. spec.spaced (spec.instruction_words e)) (sym c.in-Tsch.is)) c.put_named-in-Tsch.ensures

pub returns-in-Stsch : goal.returns-in-Stsch
returns-in-Stsch g c = same_text _ _ _ _ _ (ap (λ e. spec.spaced (spec.instruction_words e)) (sym c.in-Stsch.is)) c.put_named-in-Stsch.ensures

pub returns-in-Msch : goal.returns-in-Msch
returns-in-Msch g c = same_text _ _ _ _ _ (ap (λ e. spec.spaced (spec.instruction_words e)) (sym c.in-Msch.is)) c.put_named-in-Msch.ensures

pub returns-in-Rsch : goal.returns-in-Rsch
returns-in-Rsch g c = same_text _ _ _ _ _ (ap (λ e. spec.spaced (spec.instruction_words e)) (sym c.in-Rsch.is)) c.put_named-in-Rsch.ensures

pub returns-in-Hsch : goal.returns-in-Hsch
returns-in-Hsch g c = same_text _ _ _ _ _ (ap (λ e. spec.spaced (spec.instruction_words e)) (sym c.in-Hsch.is)) c.put_named-in-Hsch.ensures

pub returns-in-Csch : goal.returns-in-Csch
returns-in-Csch g c = same_text _ _ _ _ _ (ap (λ e. spec.spaced (spec.instruction_words e)) (sym c.in-Csch.is)) c.put_named-in-Csch.ensures

pub returns-in-Xsch : goal.returns-in-Xsch
returns-in-Xsch g c = same_text _ _ _ _ _ (ap (λ e. spec.spaced (spec.instruction_words e)) (sym c.in-Xsch.is)) c.put_named-in-Xsch.ensures

pub returns-in-Enable : goal.returns-in-Enable
returns-in-Enable g c = same_text _ _ _ _ _ (ap (λ e. spec.spaced (spec.instruction_words e)) (sym c.in-Enable.is)) c.put_enable.ensures
