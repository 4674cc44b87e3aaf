-- The turns of workers (own).
use Rattle.std.specs.Prelude.{◌≡◌, ◌≢◌, ◌⊎◌, ℕ, ◌+◌, Bool, true, false, All, List, ◌++◌, length, Option, None, Some, Result, Ok, Err, min}
use Rattle.chan_model.specs.declared.fault.Fault.{Fault}
use Rattle.chan_model.specs.declared.fault.Fault.TheVariants as fault
use Rattle.chan_model.specs.Reports.{Call}
use Rattle.chan_model.specs.Reports.{DeviceAnswer}
use Rattle.chan_events.specs.Events.{Event}
use Rattle.chan_events.specs.declared.event.Event.TheVariants as event
use Rattle.chan_events.specs.declared.event.UnitAct.TheVariants as act
use Rattle.chan_events.specs.declared.reply.Entry.{Entry}
use Rattle.chan_events.specs.Replies.{Reply}
use Rattle.machine_model.specs.Ruled.{GoesByRule}
use Rattle.channel_config.specs.Setup.{Setup}
use Rattle.machine_model.specs.Setups.{IsSetUp}
use Rattle.machine_model.specs.State.{State}
use Rattle.machine_model.specs.Steps.{HasRun, IsRefused}
use Rattle.path_select.specs.Choice.{Rule}
use Rattle.unit_driver.specs.declared.turns.OwedCall.{OwedCall}
use Rattle.unit_driver.specs.declared.waiting.WaitingReport.{WaitingReport}
use Rattle.unit_driver.specs.declared.turns.TakenCommand.{TakenCommand}
use Rattle.unit_driver.specs.declared.turns.Turn.{Turn}
use Rattle.unit_driver.specs.declared.turns.Turn.TheVariants.{Enters, Leaves, Owes, Rests}
use Rattle.glance_directory.specs.Directory.{directory_of}
use Rattle.core_lock.specs.Seats.{Guarded, GuardedCore, HeldSeat, Seated}
use Rattle.unit_driver.specs.Waiting.{waits_after, report_event}
use Rattle.unit_driver.specs.Reporting.{report_of}
use Rattle.unit_driver.specs.Turns.{turn_of}
use Rattle.glance_directory.specs.PathTurns.{path_turn_among}
use Rattle.core_lock.specs.Entering as entering
use Rattle.core_lock.specs.Entering.{IsExhausted}

-- a seat with one turn more
abbrev pub turned : Seated → Seated
turned seat = record seat { turns = seat.turns + 1 }

abbrev pub with_waiting : Seated → Option WaitingReport → Seated
with_waiting seat waiting = record seat { waiting = waiting }

abbrev pub with_owed : Seated → Option OwedCall → Seated
with_owed seat owed = record seat { owed = owed }

abbrev pub with_left : Seated → Option TakenCommand → Seated
with_left seat left = record seat { left = left }

abbrev pub turned_seat : HeldSeat → HeldSeat
turned_seat seat = record seat { value = turned seat.value }

abbrev pub emptied_seat : HeldSeat → HeldSeat
emptied_seat seat = record seat { value = with_waiting seat.value None }

-- an event is entered; a path that is chosen is the one of the rule
abbrev pub EntersBy : Rule → Guarded → Seated → Event → Reply → Guarded → Seated → Type 0
EntersBy picks old last e r new after = entering.Enters old last e r new after × GoesByRule picks old.state e (Ok r) new.state

-- an event is refused so, for a seat: for want of memory only where there is no room, and otherwise as the machine refuses it
abbrev pub IsRefusedBy : Rule → GuardedCore → HeldSeat → Event → Fault → Type 0
IsRefusedBy picks core seat e f =
    ((f ≡ fault.NoMemory) × IsExhausted core seat)
    ⊎ (IsRefused core.value.state e f × GoesByRule picks core.value.state e (Err f) core.value.state)

-- an event is tried: it is entered, and the seat is left as the last one with the entry; or it is refused, and all is left as it was
abbrev pub Tries : Rule → GuardedCore → HeldSeat → Seated → Event → Result Bool Fault → Guarded → Seated → Type 0
Tries picks core seat last e (Ok true) new after = (r : Reply) × EntersBy picks core.value last e r new after
Tries picks core seat last e (Ok false) new after = ⊥
Tries picks core seat last e (Err f) new after = IsRefusedBy picks core seat e f × (new ≡ core.value) × (after ≡ seat.value)

-- an event is executed: it is entered, with its reply; or it is refused, and all is left as it was
abbrev pub Executes : Rule → GuardedCore → HeldSeat → Event → Result Reply Fault → Guarded → Seated → Type 0
Executes picks core seat e (Ok r) new after = EntersBy picks core.value seat.value e r new after
Executes picks core seat e (Err f) new after = IsRefusedBy picks core seat e f × (new ≡ core.value) × (after ≡ seat.value)

-- nothing is entered
abbrev pub Passes : GuardedCore → Seated → Result Bool Fault → Guarded → Seated → Type 0
Passes core seat result new after = (result ≡ Ok false) × (new ≡ core.value) × (after ≡ seat)

-- a report that waits is handed in: it is entered, or refused; a stale one is dropped then
abbrev pub EntersReport : Rule → GuardedCore → HeldSeat → WaitingReport → Result Bool Fault → Guarded → Seated → Type 0
EntersReport picks core seat waiting (Ok true) new after = (r : Reply) × EntersBy picks core.value seat.value (report_event waiting) r new after
EntersReport picks core seat waiting (Ok false) new after =
    IsRefusedBy picks core seat (report_event waiting) fault.NotNow × (new ≡ core.value) × (after ≡ with_waiting seat.value None)
EntersReport picks core seat waiting (Err f) new after =
    (f ≢ fault.NotNow) × IsRefusedBy picks core seat (report_event waiting) f × (new ≡ core.value) × (after ≡ with_waiting seat.value (waits_after (report_event waiting) f))

abbrev pub TakesTurn : Rule → GuardedCore → HeldSeat → Turn → Result Bool Fault → Guarded → Seated → Type 0
TakesTurn picks core seat (Enters e) result new after = Tries picks core seat seat.value e result new after
TakesTurn picks core seat (Leaves command) result new after =
    Tries picks core seat (with_left seat.value (Some command)) (event.Act command.«unit» act.Leave) result new after
TakesTurn picks core seat (Owes call) result new after = Passes core (with_owed seat.value (Some call)) result new after
TakesTurn picks core seat Rests result new after = Passes core seat.value result new after

-- a turn of a unit's worker, by a seat with one turn more
abbrev pub TakesUnitTurn : Rule → GuardedCore → HeldSeat → Option WaitingReport → ℕ → Bool → Result Bool Fault → Guarded → Seated → Type 0
TakesUnitTurn picks core seat (Some waiting) at roam result new after = EntersReport picks core (emptied_seat seat) waiting result new after
TakesUnitTurn picks core seat None at roam result new after =
    TakesTurn picks core seat (turn_of roam seat.value.left at core.value.state) result new after

-- a turn of a channel path's worker
abbrev pub TakesPathTurn : Rule → GuardedCore → HeldSeat → Option Event → Result Bool Fault → Guarded → Seated → Type 0
TakesPathTurn picks core seat None result new after = Passes core seat.value result new after
TakesPathTurn picks core seat (Some e) result new after = Tries picks core seat seat.value e result new after

-- a turn of this channel path's worker
abbrev pub turn_of_path : State → ℕ → Option Event
turn_of_path s chpid = path_turn_among s chpid (directory_of s).setups

-- one call more, of which the greatest number of 64 bits stays
abbrev pub one_call_more : ℕ → ℕ
one_call_more calls = min (calls + 1) 0xFFFFFFFFFFFFFFFF

-- the call that is owed is made: the gate let it pass, by its unit and the number that the seat's calls have with it; it is made by
-- the relation of the device, between the device before it, the call, its answer and the device after it; the answer waits as a
-- report, and nothing is owed
abbrev pub Calls : {D : Type 0} → (ℕ → ℕ → Type 0) → (D → Call → DeviceAnswer → D → Type 0) → Seated → D → Seated → D → Type 0
Calls passes answers old device new after =
    (owed : OwedCall) × (answer : DeviceAnswer) × (old.owed ≡ Some owed)
    × passes owed.«unit» (one_call_more old.calls) × answers device owed.call answer after
    × (new ≡ record old { calls = one_call_more old.calls; owed = None; waiting = Some (report_of owed answer) })

-- what a lock guards is of the machine of this seat: its history led to its state, it is set up so, and these are its subchannels
abbrev pub IsOfMachine : Seated → Guarded → Type 0
IsOfMachine seat core = HasRun core.history core.state × IsSetUp seat.setup core.state × (directory_of core.state ≡ seat.directory)

-- a history of a machine that is set up so may lead to this state
abbrev pub MayStand : Setup → State → Type 0
MayStand setup s = (h : List Entry) × HasRun h s × IsSetUp setup s

-- a turn of a channel path's worker may be this event: in such a state it is the first that there is for a subchannel
abbrev pub IsOfPath : Setup → ℕ → Event → Type 0
IsOfPath setup chpid e = (s : State) × MayStand setup s × (turn_of_path s chpid ≡ Some e)

-- a turn of a unit's worker may be for this: in such a state, after some command for which the unit left its path last
abbrev pub MayTurn : Setup → Bool → ℕ → Turn → Type 0
MayTurn setup roam at turn = (s : State) × MayStand setup s × (left : Option TakenCommand) × (turn_of roam left at s ≡ turn)

-- the event that a turn enters
abbrev pub IsEnteredBy : Turn → Event → Type 0
IsEnteredBy (Enters entered) e = e ≡ entered
IsEnteredBy (Leaves command) e = e ≡ event.Act command.«unit» act.Leave
IsEnteredBy turn e = ⊥

-- the report of what a device answered to a call that such a turn owed
abbrev pub IsAnswer : Setup → Bool → ℕ → WaitingReport → Type 0
IsAnswer setup roam at waiting =
    (owed : OwedCall) × (answer : DeviceAnswer) × MayTurn setup roam at (Owes owed) × (waiting ≡ report_of owed answer)

-- a report that waits in the end waited before, or answers a call of such a turn; a call that is owed is of such a turn
abbrev pub IsWaitingFrom : Setup → Bool → ℕ → Option WaitingReport → Option WaitingReport → Type 0
IsWaitingFrom setup roam at old None = Unit {0}
IsWaitingFrom setup roam at old (Some waiting) = IsAnswer setup roam at waiting ⊎ (old ≡ Some waiting)

abbrev pub IsOwedBy : Setup → Bool → ℕ → Option OwedCall → Type 0
IsOwedBy setup roam at None = Unit {0}
IsOwedBy setup roam at (Some owed) = MayTurn setup roam at (Owes owed)

-- an event of a unit's worker is that of a turn, or the report that its seat keeps
abbrev pub IsTurnEvent : Setup → Bool → ℕ → Event → Type 0
IsTurnEvent setup roam at e = (turn : Turn) × MayTurn setup roam at turn × IsEnteredBy turn e

abbrev pub IsEnteredReport : Setup → Bool → ℕ → Option WaitingReport → Event → Type 0
IsEnteredReport setup roam at old e = (waiting : WaitingReport) × IsWaitingFrom setup roam at old (Some waiting) × (e ≡ report_event waiting)

abbrev pub IsOfWorker : Setup → Bool → ℕ → Option WaitingReport → Event → Type 0
IsOfWorker setup roam at waiting e = IsTurnEvent setup roam at e ⊎ IsEnteredReport setup roam at waiting e

-- the log grew by so many entries, whose events are such
abbrev pub Grew : (Event → Type 0) → List Entry → List Entry → ℕ → Type 0
Grew P old new count = (more : List Entry) × (new ≡ old ++ more) × (length more ≡ count) × All (λ (e : Entry). P e.event) more

-- what turns of a path's worker leave of its seat, and turns of a unit's worker
pub record WorksPath (chpid : ℕ) (old new : Seated) (count : ℕ) : Type 0 where
  pub number : new.number ≡ old.number
  pub setup : new.setup ≡ old.setup
  pub directory : new.directory ≡ old.directory
  pub owed : new.owed ≡ old.owed
  pub log : Grew (IsOfPath old.setup chpid) old.log new.log count

pub record WorksUnit (roam : Bool) (at : ℕ) (old new : Seated) (count : ℕ) : Type 0 where
  pub number : new.number ≡ old.number
  pub setup : new.setup ≡ old.setup
  pub directory : new.directory ≡ old.directory
  pub waiting : IsWaitingFrom old.setup roam at old.waiting new.waiting
  pub log : Grew (IsOfWorker old.setup roam at old.waiting) old.log new.log count

-- what a call that is made leaves, where one is owed: a report of it
abbrev pub IsAnswered : Option OwedCall → Option WaitingReport → Option WaitingReport → Type 0
IsAnswered None old new = new ≡ old
IsAnswered (Some owed) old new = (answer : DeviceAnswer) × (new ≡ Some (report_of owed answer))

pub record IsCalled (old new : Seated) : Type 0 where
  pub number : new.number ≡ old.number
  pub setup : new.setup ≡ old.setup
  pub directory : new.directory ≡ old.directory
  pub log : new.log ≡ old.log
  pub turns : new.turns ≡ old.turns
  pub owed : new.owed ≡ None
  pub waiting : IsAnswered old.owed old.waiting new.waiting

-- how many entries a turn made
abbrev pub count_of : Bool → ℕ
count_of true = 1
count_of false = 0

abbrev pub count_in : Result Bool Fault → ℕ
count_in (Ok entered) = count_of entered
count_in (Err f) = 0
