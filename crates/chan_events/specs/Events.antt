-- Events over lists of bytes, and events whose bytes stand elsewhere (own).
use Rattle.std.specs.Prelude.{ℕ, List, [], take}
use Rattle.chan_events.specs.declared.event.Event as declared_event
use Rattle.chan_events.specs.declared.event.Event.TheVariants as event
use Rattle.chan_model.specs.Reports.{KeptReport, Report, answer_bytes, answer_length, report_in}

-- an event, with its bytes
abbrev pub Event : Type 0
Event = declared_event.Event (List ℕ) Report

-- an event whose bytes stand elsewhere, so many of them
abbrev pub KeptEvent : Type 0
KeptEvent = declared_event.Event ℕ KeptReport

-- the same event over something else in place of its bytes and of a report
abbrev pub map_event : {A B R S : Type 0} → (A → B) → (R → S) → declared_event.Event A R → declared_event.Event B S
map_event f g (event.Put address bytes) = event.Put address (f bytes)
map_event f g (event.SetKey address key) = event.SetKey address key
map_event f g (event.SetPrefix cpu address) = event.SetPrefix cpu address
map_event f g (event.Show address length) = event.Show address length
map_event f g (event.Execute cpu instruction) = event.Execute cpu instruction
map_event f g (event.ExecuteOther cpu instruction) = event.ExecuteOther cpu instruction
map_event f g (event.Choose subchannel) = event.Choose subchannel
map_event f g (event.Up subchannel path) = event.Up subchannel path
map_event f g (event.Down subchannel path) = event.Down subchannel path
map_event f g (event.Report unit report) = event.Report unit (g report)
map_event f g (event.Act unit act) = event.Act unit act
map_event f g (event.Restart unit) = event.Restart unit
map_event f g (event.PathDown chpid) = event.PathDown chpid
map_event f g (event.PathUp chpid) = event.PathUp chpid
map_event f g (event.PathReset chpid) = event.PathReset chpid
map_event f g event.SystemReset = event.SystemReset

-- the event with the first of these bytes
abbrev pub event_in : KeptEvent → List ℕ → Event
event_in kept bytes = map_event (λ n. take n bytes) (λ r. report_in r bytes) kept

-- the bytes of an event, and how many stand elsewhere
abbrev pub event_bytes : Event → List ℕ
event_bytes (event.Put address bytes) = bytes
event_bytes (event.Report unit report) = answer_bytes report.answer
event_bytes e = []

abbrev pub event_length : KeptEvent → ℕ
event_length (event.Put address count) = count
event_length (event.Report unit report) = answer_length report.answer
event_length e = 0
