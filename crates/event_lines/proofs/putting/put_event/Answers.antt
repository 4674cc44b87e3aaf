use Rattle.std.proofs.Common.{◌∷◌, [], ◌++◌, codes, ap, sym, ◌∙◌}
use Rattle.script_text.specs.Text.{byte_text, word_text}
use Rattle.script_text.proofs.Printing.{same_text}
use Rattle.event_lines.specs.EventLines as spec
use Rattle.event_lines.proofs.putting.put_event.Goals as goal

pub returns-in-Put : goal.returns-in-Put
returns-in-Put g c = same_text _ _ _ _ _ (ap (λ bytes. codes "put" ++ word_text c.in-Put.address ++ spec.spaced (spec.bytes_word bytes ∷ [])) c.as_slice.ensures.value ∙ ap (λ e. spec.event_text e) (sym c.in-Put.is)) c.put_named_bytes.ensures

pub returns-in-SetKey : goal.returns-in-SetKey
returns-in-SetKey g c = same_text _ _ _ _ _ (ap (λ byte. codes "key" ++ word_text c.in-SetKey.address ++ spec.spaced (byte_text byte ∷ [])) c.byte.ensures ∙ ap (λ e. spec.event_text e) (sym c.in-SetKey.is)) c.put_named_byte.ensures

pub returns-in-SetPrefix : goal.returns-in-SetPrefix
returns-in-SetPrefix g c = same_text _ _ _ _ _ (ap (λ e. spec.event_text e) (sym c.in-SetPrefix.is)) c.put_prefix.ensures

pub returns-in-Show : goal.returns-in-Show
returns-in-Show g c = same_text _ _ _ _ _ (ap (λ count. codes "show" ++ word_text c.in-Show.address ++ word_text count) c.get.ensures.value ∙ ap (λ e. spec.event_text e) (sym c.in-Show.is)) c.put_named.ensures

pub returns-in-Choose : goal.returns-in-Choose
returns-in-Choose g c = same_text _ _ _ _ _ (ap (λ e. spec.event_text e) (sym c.in-Choose.is)) c.put_named-in-Choose.ensures

pub returns-in-Up : goal.returns-in-Up
returns-in-Up g c = same_text _ _ _ _ _ (ap (λ e. spec.event_text e) (sym c.in-Up.is)) c.put_named-in-Up.ensures

pub returns-in-Down : goal.returns-in-Down
returns-in-Down g c = same_text _ _ _ _ _ (ap (λ e. spec.event_text e) (sym c.in-Down.is)) c.put_named-in-Down.ensures

pub returns-in-Report : goal.returns-in-Report
returns-in-Report g c = same_text _ _ _ _ _ (ap (λ e. spec.event_text e) (sym c.in-Report.is)) c.put_report.ensures

pub returns-in-Restart : goal.returns-in-Restart
returns-in-Restart g c = same_text _ _ _ _ _ (ap (λ e. spec.event_text e) (sym c.in-Restart.is)) c.put_named-in-Restart.ensures

pub returns-in-PathDown : goal.returns-in-PathDown
returns-in-PathDown g c = same_text _ _ _ _ _ (ap (λ e. spec.event_text e) (sym c.in-PathDown.is)) c.put_named-in-PathDown.ensures

pub returns-in-PathUp : goal.returns-in-PathUp
returns-in-PathUp g c = same_text _ _ _ _ _ (ap (λ e. spec.event_text e) (sym c.in-PathUp.is)) c.put_named-in-PathUp.ensures

pub returns-in-PathReset : goal.returns-in-PathReset
returns-in-PathReset g c = same_text _ _ _ _ _ (ap (λ e. spec.event_text e) (sym c.in-PathReset.is)) c.put_named-in-PathReset.ensures
