-- Histories that grow, and what wants where an action is refused for want of memory.
use Rattle.std.proofs.Common.{◌≡◌, ◌≢◌, ℕ, ◌+◌, ◌≤◌, ◌^◌, Bool, true, false, ◌||◌, List, [], ◌∷◌, ◌++◌, length, Option, None, Some, Result, Ok, Err, refl, sym, ap, ◌∙◌, arith, inl, inr, length-append, true≢false}
use Rattle.std.specs.Prelude.{◌⊎◌, slice_get}
use Rattle.chan_events.specs.Events.{Event}
use Rattle.chan_events.specs.declared.event.Event.TheVariants as event
use Rattle.chan_events.specs.declared.reply.Entry.{Entry}
use Rattle.chan_events.specs.Replies.{Reply}
use Rattle.chan_model.specs.declared.fault.Fault.{Fault}
use Rattle.chan_model.specs.declared.fault.Fault.TheVariants as fault
use Rattle.chan_model.specs.Reports.{DeviceAnswer, Report}
use Rattle.core_lock.specs.Seats.{entry}
use Rattle.device_models.specs.declared.any_device.AnyDevice.{AnyDevice}
use Rattle.machine_model.specs.State.{Past}
use Rattle.machine_model.specs.UnitTurns.{UnitTurn}
use Rattle.script_rows.specs.declared.Action.{Action}
use Rattle.script_rows.specs.declared.Action.TheVariants as action
use Rattle.script_runner.specs.Acting.{ActionOutcome, Enters, Follows, Installed, IsUsedUp, PerformsAction, device_turn_of, answer_by, is_starved, outcome_of, report_with, turn_by, turn_by_next}
use Rattle.unit_driver.specs.Reporting.{AskedCall, next_of}
use Rattle.unit_driver.specs.declared.waiting.WaitingReport.{WaitingReport}
use Rattle.unit_driver.specs.declared.reporting.NextReport.{NextReport}
use Rattle.unit_driver.specs.declared.reporting.NextReport.TheVariants.{Told, Asked, Nothing}
use Rattle.script_runner.specs.declared.scripted_machine.Acted.{Acted}
use Rattle.script_runner.specs.declared.scripted_machine.Acted.TheVariants.{Replied, Looked}

same_length : (p q : Past) → q.history ≡ p.history → length p.history ≤ length q.history
same_length p q is =
    let same : length q.history ≡ length p.history = ap length is in
    omega (arith, same)

one_longer : (p q : Past) (e : Event) (r : Reply) → q.history ≡ p.history ++ entry e r ∷ [] → length p.history ≤ length q.history
one_longer p q e r is =
    let more : length q.history ≡ length p.history + 1 = ap length is ∙ length-append p.history (entry e r ∷ []) in
    omega (arith, more)

entered_longer : (p q : Past) (e : Event) (r : Result Reply Fault) → Enters p e r q → length p.history ≤ length q.history
entered_longer p q e (Ok r) enters = one_longer p q e r enters.2
entered_longer p q e (Err fault.NoMemory) enters = same_length p q enters.0.history
entered_longer p q e (Err fault.WireFull) enters = same_length p q enters.2.history
entered_longer p q e (Err fault.NotSent) enters = same_length p q enters.2.history
entered_longer p q e (Err fault.NoSuchSubchannel) enters = same_length p q enters.2.history
entered_longer p q e (Err fault.NoSuchPath) enters = same_length p q enters.2.history
entered_longer p q e (Err fault.NoSuchUnit) enters = same_length p q enters.2.history
entered_longer p q e (Err fault.NotNow) enters = same_length p q enters.2.history
entered_longer p q e (Err (fault.ConfigBad rule)) enters = same_length p q enters.2.history
entered_longer p q e (Err (fault.ScriptBad line rule)) enters = same_length p q enters.2.history
entered_longer p q e (Err (fault.Storage kind)) enters = same_length p q enters.2.history
entered_longer p q e (Err fault.Operand) enters = same_length p q enters.2.history

followed_longer : (old : Installed) (index : ℕ) (report : Result Report Fault) (r : Result Reply Fault) (new : Installed) → Follows old index report r new
    → length old.past.history ≤ length new.past.history
followed_longer old index (Ok report) r new turn = entered_longer old.past new.past (event.Report index report) r turn.0
followed_longer old index (Err f) r new turn = same_length old.past new.past (ap (λ (i : Installed). i.past.history) turn.1)

-- no action makes the history shorter
pub acted_longer : (old : Installed) (a : Action) (r : ActionOutcome) (new : Installed) → PerformsAction old a r new → length old.past.history ≤ length new.past.history
acted_longer old (action.Event e) r new acts = entered_longer old.past new.past e acts.0 acts.2.0
acted_longer old (action.Dev index) r new acts =
    followed_longer (record old { devices = (device_turn_of old index).devices }) index (device_turn_of old index).report acts.0 new acts.2
acted_longer old (action.Glance word) r new acts = same_length old.past new.past (ap (λ (i : Installed). i.past.history) acts.2)

reaches : (n a b : ℕ) → n ≤ a + 1 → a ≤ b → n ≤ b + 1
reaches n a b h le = omega arith

later : (short : Bool) (p q : Past) → length p.history ≤ length q.history → (short ≡ true) ⊎ IsUsedUp p → (short ≡ true) ⊎ IsUsedUp q
later short p q le (inl is) = inl is
later short p q le (inr used) = inr (reaches (2 ^ 62) (length p.history) (length q.history) used le)

earlier_still : (was short : Bool) (p : Past) → short ≡ was → (was ≡ true) ⊎ IsUsedUp p → (short ≡ true) ⊎ IsUsedUp p
earlier_still was short p same (inl is) = inl (same ∙ is)
earlier_still was short p same (inr used) = inr used

-- where one of some actions, or one more, was refused for want of memory
pub caused-more : (was short : Bool) (p q : Past) (some one : Bool) → length p.history ≤ length q.history → (some ≡ true → (was ≡ true) ⊎ IsUsedUp p) → (one ≡ false → short ≡ was)
    → (one ≡ true → (short ≡ true) ⊎ IsUsedUp p) → (some || one) ≡ true → (short ≡ true) ⊎ IsUsedUp q
caused-more was short p q some true le earlier given memory e = later short p q le (memory refl)
caused-more was short p q true false le earlier given memory e = later short p q le (earlier_still was short p (given refl) (earlier refl))
caused-more was short p q false false le earlier given memory e = absurd (true≢false (sym e))

abbrev lacking : Result Report Fault
lacking = Err fault.NoMemory

with_lacks : (call : AskedCall) (answer : Option DeviceAnswer) → report_with call answer ≢ lacking
with_lacks call None is = absurd (cc)
with_lacks call (Some answer) is = absurd (cc)

next_lacks : (devices : List AnyDevice) (index : ℕ) (next : NextReport Report AskedCall) → (turn_by_next devices index next).report ≢ lacking
next_lacks devices index (Told report) is = absurd (cc)
next_lacks devices index (Asked asks) is = with_lacks asks (answer_by (slice_get devices index) asks.call) is
next_lacks devices index Nothing is = absurd (cc)

-- a unit has a report, or not, whatever memory there is
pub turn_lacks : (devices : List AnyDevice) (index : ℕ) (waiting : Option (Option WaitingReport)) (turn : Option UnitTurn) → (turn_by devices index waiting turn).report ≢ lacking
turn_lacks devices index None turn is = absurd (cc)
turn_lacks devices index (Some waiting) None is = absurd (cc)
turn_lacks devices index (Some waiting) (Some turn) is = next_lacks devices index (next_of waiting turn) is

-- an action whose outcome is so is refused so
pub starved_by : (r : Result Acted Fault) (h : List Entry) → is_starved (outcome_of r h) ≡ true → r ≡ Err fault.NoMemory
starved_by (Ok Replied) h e = absurd (true≢false (sym e))
starved_by (Ok (Looked found)) h e = absurd (true≢false (sym e))
starved_by (Err fault.NoMemory) h e = refl
starved_by (Err fault.WireFull) h e = absurd (true≢false (sym e))
starved_by (Err fault.NotSent) h e = absurd (true≢false (sym e))
starved_by (Err fault.NoSuchSubchannel) h e = absurd (true≢false (sym e))
starved_by (Err fault.NoSuchPath) h e = absurd (true≢false (sym e))
starved_by (Err fault.NoSuchUnit) h e = absurd (true≢false (sym e))
starved_by (Err fault.NotNow) h e = absurd (true≢false (sym e))
starved_by (Err (fault.ConfigBad rule)) h e = absurd (true≢false (sym e))
starved_by (Err (fault.ScriptBad line rule)) h e = absurd (true≢false (sym e))
starved_by (Err (fault.Storage kind)) h e = absurd (true≢false (sym e))
starved_by (Err fault.Operand) h e = absurd (true≢false (sym e))

pub unstarved_by : (r : Result Acted Fault) (h : List Entry) → is_starved (outcome_of r h) ≡ false → r ≢ Err fault.NoMemory
unstarved_by r h e is = absurd (true≢false (sym (ap (λ (x : Result Acted Fault). is_starved (outcome_of x h)) is) ∙ e))

abbrev fault_in : Result (Unit {0}) Fault → Fault
fault_in (Ok done) = fault.NotNow
fault_in (Err f) = f

abbrev refusal : Fault → Result (Unit {0}) Fault
refusal f = Err f

abbrev no_report : Fault → Result Report Fault
no_report f = Err f

-- where a unit has no report, its turn is not refused for want of memory
pub turn_has_memory : (devices : List AnyDevice) (index : ℕ) (waiting : Option (Option WaitingReport)) (turn : Option UnitTurn) (f : Fault) → (turn_by devices index waiting turn).report ≡ no_report f → refusal f ≢ refusal fault.NoMemory
turn_has_memory devices index waiting turn f is same = turn_lacks devices index waiting turn (is ∙ ap no_report (ap fault_in same))
