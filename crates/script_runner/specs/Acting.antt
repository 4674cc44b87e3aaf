-- What the actions of a script come to at a channel subsystem with its devices.
use Rattle.std.specs.Prelude.{◌≡◌, ◌≤◌, ◌+◌, ◌^◌, ℕ, Bool, true, false, min, List, [], ◌∷◌, ◌++◌, length, map, replicate, slice_get, slice_set, MatchOption, Option, None, Some, Result, Ok, Err}
use Rattle.chan_events.specs.Events.{Event}
use Rattle.chan_events.specs.declared.event.Event.TheVariants as event
use Rattle.chan_model.specs.declared.fault.Fault.{Fault}
use Rattle.chan_model.specs.declared.fault.Fault.TheVariants as fault
use Rattle.chan_events.specs.declared.reply.Entry.{Entry}
use Rattle.chan_events.specs.Replies.{Reply}
use Rattle.chan_model.specs.Reports.{Call}
use Rattle.chan_model.specs.Reports.{DeviceAnswer}
use Rattle.chan_model.specs.Reports.{Report}
use Rattle.channel_config.specs.Setup.{Setup}
use Rattle.core_lock.specs.Entering.{Looks, entered}
use Rattle.core_lock.specs.Seats.{Locked, LockedCore, HeldSeat, Seated, entries_by}
use Rattle.device_models.specs.AnyDevices.{device_of, device_opening, answer_of, after}
use Rattle.device_models.specs.declared.any_device.AnyDevice.{AnyDevice}
use Rattle.machine_model.specs.Ruled.{GoesByRule}
use Rattle.path_select.specs.Choice.{TakesNext}
use Rattle.machine_model.specs.State.{Past, State, IsAsBefore, IsSpent, opening_of, unit_turn_of, sub_of, serials_in}
use Rattle.machine_model.specs.Steps.{Step, IsRefused}
use Rattle.machine_model.specs.UnitTurns.{UnitTurn}
use Rattle.scsw_irb.specs.declared.serials.Serials.{Serials}
use Rattle.script_rows.specs.declared.Action.{Action}
use Rattle.script_rows.specs.declared.Action.TheVariants as action
use Rattle.script_text.specs.declared.ActionResult.{ActionResult}
use Rattle.script_text.specs.declared.ActionResult.TheVariants as told
use Rattle.script_text.specs.Text.{told_of}
use Rattle.script_runner.specs.Race.{IsNewSeat}
use Rattle.event_log.specs.Logs.{last_reply}
use Rattle.unit_driver.specs.Waiting.{waits_by}
use Rattle.unit_driver.specs.Reporting.{AskedCall, answered, next_of}
use Rattle.unit_driver.specs.declared.waiting.WaitingReport.{WaitingReport}
use Rattle.unit_driver.specs.declared.reporting.NextReport.{NextReport}
use Rattle.unit_driver.specs.declared.reporting.NextReport.TheVariants.{Told, Asked, Nothing}
use Rattle.script_runner.specs.declared.scripted_machine.Acted.{Acted}
use Rattle.script_runner.specs.declared.scripted_machine.Acted.TheVariants.{Replied, Looked}

-- what an action comes to, and what an event does
abbrev pub ActionOutcome : Type 0
ActionOutcome = Result ActionResult Fault

-- what an audit compares: the seat from which events are entered, with its number and its log, and the seat of each entry of the
-- history
pub record Books : Type 0 where
  pub by : List ℕ
  pub seat : Seated

-- a machine, its books, and by unit its device and the report that is still to be handed in
pub record Installed : Type 0 where
  pub past : Past
  pub books : Books
  pub devices : List AnyDevice
  pub waiting : List (Option WaitingReport)

-- a machine that no lock guards and its one seat, as a past and its books
abbrev pub past_of : LockedCore → HeldSeat → Past
past_of core seat = record { state = core.value.state; history = core.value.history; room = min core.room seat.room }

abbrev pub books_of : LockedCore → HeldSeat → Books
books_of core seat = record { by = core.value.by; seat = seat.value }

-- the first seat of a machine at its opening
abbrev pub opening_locked : Setup → Locked
opening_locked setup = record { state = opening_of setup; history = []; by = []; seats = 0 }

abbrev pub IsOpeningSeat : Setup → Seated → Type 0
IsOpeningSeat setup seat = IsNewSeat setup (opening_locked setup) seat

abbrev pub opening_books : Seated → Books
opening_books seat = record { by = []; seat = seat }

abbrev pub opening_installed : Setup → Seated → Installed
opening_installed setup seat = record {
  past = record { state = opening_of setup; history = []; room = 0 };
  books = opening_books seat;
  devices = map device_of setup.units;
  waiting = replicate (length setup.units) None;
}

-- a machine at its opening, with its first seat
abbrev pub IsOpening : Setup → Installed → Type 0
IsOpening setup i = (i ≡ opening_installed setup i.books.seat) × IsOpeningSeat setup i.books.seat

-- an audit finds what it should: the entries of the history that have the number of the seat are its log, in order
abbrev pub IsAudited : Installed → Type 0
IsAudited i = entries_by i.books.seat.number i.books.by i.past.history ≡ i.books.seat.log

-- the books after an event: an entry, with the number of the seat, where it was accepted, and the seat as it is then
abbrev pub booked : Books → Event → Result Reply Fault → Books
booked books e (Ok r) = record books { by = books.by ++ books.seat.number ∷ []; seat = entered books.seat e r }
booked books e (Err f) = books

-- an event: a step by the path that follows the last one, which the history keeps with its reply; or a refusal, after which
-- all is as before. Want of memory comes only where the history or the books had no room, or no number was left.
abbrev pub Enters : Past → Event → Result Reply Fault → Past → Type 0
Enters old e (Ok r) new =
    Step old.state e r new.state × GoesByRule TakesNext old.state e (Ok r) new.state
    × (new.history ≡ old.history ++ record { event = e; reply = r } ∷ []) × (old.room ≤ new.room + 1)
Enters old e (Err fault.NoMemory) new = IsAsBefore old new × IsSpent old
Enters old e (Err f) new = IsRefused old.state e f × GoesByRule TakesNext old.state e (Err f) new.state × IsAsBefore old new

-- no number is left for another event
abbrev pub IsUsedUp : Past → Type 0
IsUsedUp past = 2 ^ 62 ≤ length past.history + 1

-- an action was refused for want of memory
abbrev pub is_starved : ActionOutcome → Bool
is_starved (Err fault.NoMemory) = true
is_starved r = false

-- A turn of a device: the report that is to be handed in, or why there is none; and the devices, of which one may be called.
pub record DeviceTurn : Type 0 where
  pub report : Result Report Fault
  pub devices : List AnyDevice

abbrev pub turn_refused : List AnyDevice → Fault → DeviceTurn
turn_refused devices fault = record { report = Err fault; devices = devices }

abbrev pub hands : List AnyDevice → Report → DeviceTurn
hands devices report = record { report = Ok report; devices = devices }

-- what the device of a unit answers to a call, and the devices after it
abbrev pub answer_by : Option AnyDevice → Call → Option DeviceAnswer
answer_by None call = None
answer_by (Some device) call = Some (answer_of device call)

abbrev pub called : List AnyDevice → ℕ → Option AnyDevice → Call → List AnyDevice
called devices index None call = devices
called devices index (Some device) call = slice_set devices index (after device call)

-- the report with what the device answers to the call that is asked; and the devices after it
abbrev pub report_with : AskedCall → Option DeviceAnswer → Result Report Fault
report_with call None = Err fault.NoSuchUnit
report_with call (Some answer) = Ok (answered call answer)

abbrev pub asked : List AnyDevice → ℕ → AskedCall → DeviceTurn
asked devices index asks = record {
  report = report_with asks (answer_by (slice_get devices index) asks.call);
  devices = called devices index (slice_get devices index) asks.call;
}

-- the report that a unit hands in next: one that is there, or one with what its device answers
abbrev pub turn_by_next : List AnyDevice → ℕ → NextReport Report AskedCall → DeviceTurn
turn_by_next devices index (Told report) = hands devices report
turn_by_next devices index (Asked asks) = asked devices index asks
turn_by_next devices index Nothing = turn_refused devices fault.NotNow

-- the report that waits for a unit, else the one of its work
abbrev pub turn_by : List AnyDevice → ℕ → Option (Option WaitingReport) → Option UnitTurn → DeviceTurn
turn_by devices index None turn = turn_refused devices fault.NoSuchUnit
turn_by devices index (Some waiting) None = turn_refused devices fault.NoSuchUnit
turn_by devices index (Some waiting) (Some turn) = turn_by_next devices index (next_of waiting turn)

abbrev pub device_turn_of : Installed → ℕ → DeviceTurn
device_turn_of old index = turn_by old.devices index (slice_get old.waiting index) (unit_turn_of old.past.state index)

-- where an answer was given it stands in an index; and so does a report
abbrev pub answer_when : Bool → DeviceAnswer → Option DeviceAnswer
answer_when true answer = Some answer
answer_when false answer = None

abbrev pub reported : Result Unit Fault → Report → Result Report Fault
reported (Ok done) report = Ok report
reported (Err f) report = Err f

-- the event that hands in the report of a unit stands in an index, where there is one
abbrev pub IsWritten : ℕ → Result Unit Fault → Event → Result Report Fault → Type 0
IsWritten index (Ok done) e r = (report : Report) × (e ≡ event.Report index report) × (r ≡ Ok report)
IsWritten index (Err f) e r = r ≡ Err f

-- a report waits on where it was refused for want of memory or of room on a wire, and only there
abbrev pub EntersReport : Installed → ℕ → Report → Result Reply Fault → Installed → Type 0
EntersReport old index report r new =
    Enters old.past (event.Report index report) r new.past
    × (new.books ≡ booked old.books (event.Report index report) r)
    × (new.devices ≡ old.devices)
    × (new.waiting ≡ slice_set old.waiting index (waits_by (event.Report index report) r))

-- a turn of the device of a unit: its report is handed in, or it has none and nothing changes
abbrev pub Follows : Installed → ℕ → Result Report Fault → Result Reply Fault → Installed → Type 0
Follows old index (Ok report) r new = EntersReport old index report r new
Follows old index (Err f) r new = (r ≡ Err f) × (new ≡ old)

abbrev pub TakesTurn : Installed → ℕ → Result Reply Fault → Installed → Type 0
TakesTurn old index r new = Follows (record old { devices = (device_turn_of old index).devices }) index (device_turn_of old index).report r new

-- a look at the serials of a subchannel: refused where it is not configured
abbrev pub glanced : Option Serials → ActionOutcome
glanced None = Err fault.NoSuchSubchannel
glanced (Some serials) = Ok (told.Serials serials)

-- what an action came to, by what was answered and the history that it left: the reply of an event is that of the last entry
abbrev pub outcome_of : Result Acted Fault → List Entry → ActionOutcome
outcome_of (Ok Replied) h = Ok (told.Reply (last_reply h))
outcome_of (Ok (Looked found)) h = Ok (told.Serials found)
outcome_of (Err f) h = Err f

-- a seat looks at the serials of a subchannel: where the machine has it, its reader of that subchannel's cell loads them once; else
-- it stays as it was
abbrev pub SeatLooks : State → Seated → ℕ → Option Serials → Seated → Type 0
SeatLooks s old word own new = MatchOption own (new ≡ old) (λ found. Looks s old word found new)

-- a look from the seat: what it finds is what the machine has, and is shown
abbrev pub LooksFrom : Installed → ℕ → Option Serials → ActionOutcome → Installed → Type 0
LooksFrom old word own r new =
    (r ≡ glanced own)
    × SeatLooks old.past.state old.books.seat word own new.books.seat
    × (new ≡ record old { books = record old.books { seat = new.books.seat } })

-- where a restart of a unit was accepted its device is put back to its opening; a report that waits for it waits on
abbrev pub put_back : List AnyDevice → ℕ → Option AnyDevice → List AnyDevice
put_back devices index None = devices
put_back devices index (Some device) = slice_set devices index (device_opening device)

abbrev pub devices_restarted : List AnyDevice → Event → List AnyDevice
devices_restarted devices (event.Restart index) = put_back devices index (slice_get devices index)
devices_restarted devices other = devices

abbrev pub devices_left : List AnyDevice → Event → Result Reply Fault → List AnyDevice
devices_left devices e (Ok r) = devices_restarted devices e
devices_left devices e (Err f) = devices

abbrev pub Happens : Installed → Event → Result Reply Fault → Installed → Type 0
Happens old e r new =
    Enters old.past e r new.past
    × (new.books ≡ booked old.books e r)
    × (new.devices ≡ devices_left old.devices e r)
    × (new.waiting ≡ old.waiting)

abbrev pub PerformsAction : Installed → Action → ActionOutcome → Installed → Type 0
PerformsAction old (action.Event e) r new =
    (came : Result Reply Fault) × (r ≡ told_of came) × Happens old e came new
PerformsAction old (action.Dev index) r new = (came : Result Reply Fault) × (r ≡ told_of came) × TakesTurn old index came new
PerformsAction old (action.Glance word) r new = LooksFrom old word (serials_in (sub_of old.past.state word)) r new

-- the actions in order come to these outcomes
abbrev pub Runs : Installed → List Action → List ActionOutcome → Installed → Type 0
Runs old [] [] new = new ≡ old
Runs old [] (r ∷ outcomes) new = ⊥
Runs old (a ∷ actions) [] new = ⊥
Runs old (a ∷ actions) (r ∷ outcomes) new = (middle : Installed) × PerformsAction old a r middle × Runs middle actions outcomes new
