-- The signals that an event moved, as its reply tells them.
use Rattle.std.specs.Prelude.{ℕ, Bool, true, false, List, [], ◌∷◌, slice_get, Option, None, Some}
use Rattle.chan_model.specs.Signals as signals
use Rattle.chan_model.specs.declared.signal.Down.TheVariants as down
use Rattle.chan_events.specs.Events.{Event}
use Rattle.chan_events.specs.declared.event.Event.TheVariants as event
use Rattle.chan_events.specs.Replies.{Reply}
use Rattle.chan_events.specs.declared.reply.Reply.TheVariants as reply
use Rattle.step_records.specs.declared.record.Fact.{Fact}
use Rattle.step_records.specs.declared.record.Fact.TheVariants as fact
use Rattle.step_records.specs.Moving.{met_as, sent_as}
use Rattle.step_records.specs.declared.record.Signal.TheVariants as signal
use Rattle.step_records.specs.declared.record.Way.TheVariants.{Down, Up}
use Rattle.step_records.specs.declared.record.Wire.{Wire}
use Rattle.machine_sight.specs.Finding.{is_available}
use Rattle.machine_sight.specs.declared.sight.Sight.{Sight}
use Rattle.functions.specs.Unwired.{Unwired}

-- the wires of a path of a subchannel
abbrev pub wire_down : ℕ → ℕ → Wire
wire_down sub path = record { subchannel = sub; path = path; way = Down }

abbrev pub wire_up : ℕ → ℕ → Wire
wire_up sub path = record { subchannel = sub; path = path; way = Up }

-- the signal that was met at the end of a wire of a subchannel
abbrev pub met_of : ℕ → Event → Reply → List Fact
met_of sub (event.Up word path) (reply.Up s taken sent) = fact.Signal (wire_up sub path) (met_as taken) (signal.Up s) ∷ []
met_of sub (event.Down word path) (reply.Down s taken sent) = fact.Signal (wire_down sub path) (met_as taken) (signal.Down s) ∷ []
met_of sub e r = []

-- how often its unit was restarted, as a subchannel knows
abbrev pub known_restarts_at : Option Unwired → ℕ
known_restarts_at None = 0
known_restarts_at (Some s) = s.state.hold.known_restarts

abbrev pub known_restarts : Sight → ℕ → ℕ
known_restarts sight sub = known_restarts_at (slice_get sight.subchannels.items sub)

abbrev pub sent_down : Sight → ℕ → ℕ → signals.Down → List Fact
sent_down before sub path s = fact.Signal (wire_down sub path) (sent_as (is_available before sub path)) (signal.Down s) ∷ []

abbrev pub sent_up : Sight → ℕ → ℕ → signals.Up → List Fact
sent_up before sub path s = fact.Signal (wire_up sub path) (sent_as (is_available before sub path)) (signal.Up s) ∷ []

-- the signal that a reply says was sent for a subchannel
abbrev pub sent_of : Sight → ℕ → Reply → List Fact
sent_of before sub (reply.Offered number path resumed) = sent_down before sub path (down.Select number)
sent_of before sub (reply.ResetSent number path) = sent_down before sub path (down.Reset number (known_restarts before sub))
sent_of before sub (reply.HaltSent number path) = sent_down before sub path (down.Halt number)
sent_of before sub (reply.Up s taken (Some on)) = sent_down before sub on.path on.signal
sent_of before sub (reply.Down s taken (Some on)) = sent_up before sub on.path on.signal
sent_of before sub r = []

-- choosing, and taking a signal
abbrev pub is_told_by_reply : Event → Bool
is_told_by_reply (event.Choose word) = true
is_told_by_reply (event.Up word path) = true
is_told_by_reply (event.Down word path) = true
is_told_by_reply e = false
