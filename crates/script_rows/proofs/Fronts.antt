-- The bytes at the front of a slot.
use Rattle.std.proofs.Common.{◌≡◌, ℕ, List, take, refl, ap, le_refl}
use Rattle.std.proofs.lemmas.List.{take-take}
use Rattle.chan_events.specs.Events.{Event, KeptEvent, event_in, event_length}
use Rattle.chan_events.specs.declared.event.Event.TheVariants as event
use Rattle.chan_model.specs.declared.report.DeviceAnswer.TheVariants as answer
use Rattle.chan_model.specs.Reports.{DeviceAnswer, KeptAnswer, answer_in, answer_length}
use Rattle.script_rows.specs.Slots.{action_in, action_length}
use Rattle.script_rows.specs.declared.Action.TheVariants as action
use Rattle.script_rows.specs.declared.slots.KeptAction.{KeptAction}
use Rattle.script_rows.specs.declared.slots.KeptAction.TheVariants as kept_action

-- an answer and an event want no more bytes than they have
answer-front : (k : KeptAnswer) (bytes : List ℕ) → answer_in k (take (answer_length k) bytes) ≡ answer_in k bytes
answer-front answer.Begins bytes = refl
answer-front (answer.Absorbed count) bytes = refl
answer-front (answer.Supplied count) bytes = ap (λ (b : List ℕ). answer.Supplied b) (take-take count count bytes (le_refl count))
answer-front answer.Again bytes = refl
answer-front (answer.Ended status more) bytes = refl

event-front : (k : KeptEvent) (bytes : List ℕ) → event_in k (take (event_length k) bytes) ≡ event_in k bytes
event-front (event.Put address count) bytes =
    ap (λ (b : List ℕ). event.Put address b) (take-take count count bytes (le_refl count))
event-front (event.SetKey address key) bytes = refl
event-front (event.SetPrefix cpu address) bytes = refl
event-front (event.Show address length) bytes = refl
event-front (event.Execute cpu instruction) bytes = refl
event-front (event.ExecuteOther cpu instruction) bytes = refl
event-front (event.Choose subchannel) bytes = refl
event-front (event.Up subchannel path) bytes = refl
event-front (event.Down subchannel path) bytes = refl
event-front (event.Report unit report) bytes =
    ap (λ (a : DeviceAnswer). event.Report unit (record { side = report.side; answer = a; number = report.number; command = report.command; sequence = report.sequence })) (answer-front report.answer bytes)
event-front (event.Act unit act) bytes = refl
event-front (event.Restart unit) bytes = refl
event-front (event.PathDown chpid) bytes = refl
event-front (event.PathUp chpid) bytes = refl
event-front (event.PathReset chpid) bytes = refl
event-front event.SystemReset bytes = refl

pub action-front : (k : KeptAction) (bytes : List ℕ) → action_in k (take (action_length k) bytes) ≡ action_in k bytes
action-front (kept_action.Event event) bytes = ap (λ (e : Event). action.Event e) (event-front event bytes)
action-front (kept_action.Dev unit) bytes = refl
action-front (kept_action.Glance subchannel) bytes = refl
