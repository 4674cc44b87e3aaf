-- A report of a unit that waits until it is entered (own).
use Rattle.std.specs.Prelude.{Bool, false, Option, None, Some, Result, Ok, Err}
use Rattle.chan_model.specs.declared.fault.Fault.{Fault}
use Rattle.chan_model.specs.declared.fault.Fault.TheVariants as fault
use Rattle.chan_events.specs.Events.{Event}
use Rattle.chan_events.specs.declared.event.Event.TheVariants as event
use Rattle.unit_driver.specs.declared.waiting.WaitingReport.{WaitingReport}

-- the event that hands in a report, and the report that an event hands in
abbrev pub report_event : WaitingReport → Event
report_event waiting = event.Report waiting.«unit» waiting.report

abbrev pub handed_in : Event → Option WaitingReport
handed_in (event.Report at report) = Some (record { «unit» = at; report = report })
handed_in e = None

-- what waits after an event was refused so: the report that it hands in, where that was for want of memory or of room on a wire
abbrev pub waits_after : Event → Fault → Option WaitingReport
waits_after e fault.NoMemory = handed_in e
waits_after e fault.WireFull = handed_in e
waits_after e f = None

-- what waits after an event was answered so: nothing where it was entered
abbrev pub waits_by : {R : Type 0} → Event → Result R Fault → Option WaitingReport
waits_by e (Ok r) = None
waits_by e (Err f) = waits_after e f

-- a stale report is no refusal: nothing was entered
abbrev pub refusal_of : Fault → Result Bool Fault
refusal_of fault.NotNow = Ok false
refusal_of f = Err f
