-- A report that is handed in, as an event that is the one of its report.
use Rattle.std.proofs.Common.{◌≡◌, ◌≢◌, Bool, true, false, Option, None, Ok, Err, ap, ◌∙◌, subst}
use Rattle.chan_model.specs.declared.fault.Fault.{Fault}
use Rattle.chan_model.specs.declared.fault.Fault.TheVariants as fault
use Rattle.chan_events.specs.Events.{Event}
use Rattle.unit_driver.specs.declared.waiting.WaitingReport.{WaitingReport}
use Rattle.path_select.specs.Choice.{Rule}
use Rattle.core_lock.specs.Seats.{Guarded, GuardedCore, HeldSeat, Seated}
use Rattle.unit_driver.specs.Waiting.{refusal_of, report_event, waits_after}
use Rattle.core_lock.specs.Turns.{EntersBy, EntersReport, IsRefusedBy, Tries, with_waiting}

pub entered_ok : (picks : Rule) (old : GuardedCore) (seat : HeldSeat) (waiting : WaitingReport) (e : Event) (b : Bool) (new : Guarded) (after : Seated) → e ≡ report_event waiting → Tries picks old seat seat.value e (Ok b) new after → EntersReport picks old seat waiting (Ok b) new after
entered_ok picks old seat waiting e true new after is (r, enters) = (r, subst (λ (x : Event). EntersBy picks old.value seat.value x r new after) is enters)
entered_ok picks old seat waiting e false new after is t = absurd t

may : (picks : Rule) (old : GuardedCore) (seat : HeldSeat) (waiting : WaitingReport) (e : Event) (f : Fault) → e ≡ report_event waiting → IsRefusedBy picks old seat e f → IsRefusedBy picks old seat (report_event waiting) f
may picks old seat waiting e f is refused = subst (λ (x : Event). IsRefusedBy picks old seat x f) is refused

left : (seat mid after : Seated) (o : Option WaitingReport) → mid ≡ seat → after ≡ with_waiting mid o → after ≡ with_waiting seat o
left seat mid after o same is = is ∙ ap (λ (s : Seated). with_waiting s o) same

refused : (picks : Rule) (old : GuardedCore) (seat : HeldSeat) (waiting : WaitingReport) (e : Event) (f : Fault) (new : Guarded) (mid after : Seated) → f ≢ fault.NotNow → e ≡ report_event waiting → Tries picks old seat seat.value e (Err f) new mid → after ≡ with_waiting mid (waits_after e f) → EntersReport picks old seat waiting (Err f) new after
refused picks old seat waiting e f new mid after other is t keeps = (other, may picks old seat waiting e f is t.0, t.1, left seat.value mid after (waits_after (report_event waiting) f) t.2 (subst (λ (x : Event). after ≡ with_waiting mid (waits_after x f)) is keeps))

pub entered_err : (picks : Rule) (old : GuardedCore) (seat : HeldSeat) (waiting : WaitingReport) (e : Event) (f : Fault) (new : Guarded) (mid after : Seated) → e ≡ report_event waiting → Tries picks old seat seat.value e (Err f) new mid → after ≡ with_waiting mid (waits_after e f) → EntersReport picks old seat waiting (refusal_of f) new after
entered_err picks old seat waiting e fault.NotNow new mid after is t keeps = (may picks old seat waiting e fault.NotNow is t.0, t.1, left seat.value mid after None t.2 keeps)
entered_err picks old seat waiting e fault.NoMemory new mid after is t keeps = refused picks old seat waiting e fault.NoMemory new mid after (λ x. absurd (cc)) is t keeps
entered_err picks old seat waiting e fault.WireFull new mid after is t keeps = refused picks old seat waiting e fault.WireFull new mid after (λ x. absurd (cc)) is t keeps
entered_err picks old seat waiting e fault.NotSent new mid after is t keeps = refused picks old seat waiting e fault.NotSent new mid after (λ x. absurd (cc)) is t keeps
entered_err picks old seat waiting e fault.NoSuchSubchannel new mid after is t keeps = refused picks old seat waiting e fault.NoSuchSubchannel new mid after (λ x. absurd (cc)) is t keeps
entered_err picks old seat waiting e fault.NoSuchPath new mid after is t keeps = refused picks old seat waiting e fault.NoSuchPath new mid after (λ x. absurd (cc)) is t keeps
entered_err picks old seat waiting e fault.NoSuchUnit new mid after is t keeps = refused picks old seat waiting e fault.NoSuchUnit new mid after (λ x. absurd (cc)) is t keeps
entered_err picks old seat waiting e (fault.ConfigBad rule) new mid after is t keeps = refused picks old seat waiting e (fault.ConfigBad rule) new mid after (λ x. absurd (cc)) is t keeps
entered_err picks old seat waiting e (fault.ScriptBad line rule) new mid after is t keeps = refused picks old seat waiting e (fault.ScriptBad line rule) new mid after (λ x. absurd (cc)) is t keeps
entered_err picks old seat waiting e (fault.Storage kind) new mid after is t keeps = refused picks old seat waiting e (fault.Storage kind) new mid after (λ x. absurd (cc)) is t keeps
entered_err picks old seat waiting e fault.Operand new mid after is t keeps = refused picks old seat waiting e fault.Operand new mid after (λ x. absurd (cc)) is t keeps
