-- The log of the one seat is what the history has of it, whatever is performed.
use Rattle.std.proofs.Common.{◌≡◌, ◌+◌, ◌==◌, ℕ, Bool, true, false, List, [], ◌∷◌, ◌++◌, length, Option, None, Some, Result, Ok, Err, refl, sym, ap, subst, ◌∙◌, arith, eq-eqb, length-append}
use Rattle.std.specs.Prelude.{if◌then◌else◌}
use Rattle.chan_events.specs.Events.{Event}
use Rattle.chan_events.specs.declared.event.Event.TheVariants as event
use Rattle.chan_events.specs.declared.reply.Entry.{Entry}
use Rattle.chan_events.specs.Replies.{Reply}
use Rattle.chan_model.specs.declared.fault.Fault.{Fault}
use Rattle.chan_model.specs.declared.fault.Fault.TheVariants as fault
use Rattle.chan_model.specs.Reports.{Report}
use Rattle.core_lock.specs.Seats.{Seated, entries_by, entry}
use Rattle.machine_model.specs.State.{IsAsBefore, Past, State}
use Rattle.scsw_irb.specs.declared.serials.Serials.{Serials}
use Rattle.script_rows.specs.declared.Action.{Action}
use Rattle.script_rows.specs.declared.Action.TheVariants as action
use Rattle.script_runner.specs.Acting.{ActionOutcome, Books, Enters, Follows, Installed, LooksFrom, PerformsAction, Runs, SeatLooks, booked, device_turn_of}

branch : (b : Bool) (x e : Entry) (rest : List Entry) → (if b then x ∷ (rest ++ e ∷ []) else rest ++ e ∷ []) ≡ (if b then x ∷ rest else rest) ++ e ∷ []
branch true x e rest = refl
branch false x e rest = refl

-- an entry of the seat more
appended : (number m : ℕ) (by : List ℕ) (history : List Entry) (e : Entry) → m ≡ number → length by ≡ length history
    → entries_by number (by ++ m ∷ []) (history ++ e ∷ []) ≡ entries_by number by history ++ e ∷ []
appended number m [] [] e is same = ap (λ (b : Bool). if b then e ∷ [] else []) (eq-eqb m number is)
appended number m [] (x ∷ history) e is same = absurd (omega (arith, same))
appended number m (n ∷ by) [] e is same = absurd (omega (arith, same))
appended number m (n ∷ by) (x ∷ history) e is same =
    ap (λ (l : List Entry). if n == number then x ∷ l else l) (appended number m by history e is (omega (arith, same))) ∙ branch (n == number) x e (entries_by number by history)

-- each entry has its seat beside it, and the log of the seat is what the history has of it
pub record Keeps (b : Books) (history : List Entry) : Type 0 where
  pub beside : length b.by ≡ length history
  pub logged : entries_by b.seat.number b.by history ≡ b.seat.log

abbrev pub Kept : Installed → Type 0
Kept i = Keeps i.books i.past.history

added : (p : Past) (b : Books) (e : Event) (x : Reply) → Keeps b p.history → Keeps (booked b e (Ok x)) (p.history ++ entry e x ∷ [])
added p b e x k = record {
  beside = length-append b.by (b.seat.number ∷ []) ∙ ap (λ (n : ℕ). n + 1) k.beside ∙ sym (length-append p.history (entry e x ∷ []));
  logged = appended b.seat.number b.seat.number b.by p.history (entry e x) refl k.beside ∙ ap (λ (l : List Entry). l ++ entry e x ∷ []) k.logged;
}

stayed : (p q : Past) (b : Books) → IsAsBefore p q → Keeps b p.history → Keeps b q.history
stayed p q b same k = subst (λ (h : List Entry). Keeps b h) (sym same.history) k

entering : (p q : Past) (b : Books) (e : Event) (r : Result Reply Fault) → Enters p e r q → Keeps b p.history → Keeps (booked b e r) q.history
entering p q b e (Ok x) enters k = subst (λ (h : List Entry). Keeps (booked b e (Ok x)) h) (sym enters.2) (added p b e x k)
entering p q b e (Err fault.NoMemory) enters k = stayed p q b enters.0 k
entering p q b e (Err fault.WireFull) enters k = stayed p q b enters.2 k
entering p q b e (Err fault.NotSent) enters k = stayed p q b enters.2 k
entering p q b e (Err fault.NoSuchSubchannel) enters k = stayed p q b enters.2 k
entering p q b e (Err fault.NoSuchPath) enters k = stayed p q b enters.2 k
entering p q b e (Err fault.NoSuchUnit) enters k = stayed p q b enters.2 k
entering p q b e (Err fault.NotNow) enters k = stayed p q b enters.2 k
entering p q b e (Err (fault.ConfigBad rule)) enters k = stayed p q b enters.2 k
entering p q b e (Err (fault.ScriptBad line rule)) enters k = stayed p q b enters.2 k
entering p q b e (Err (fault.Storage kind)) enters k = stayed p q b enters.2 k
entering p q b e (Err fault.Operand) enters k = stayed p q b enters.2 k

-- what an event leaves in the books, wherever the devices and the reports are
written : (old : Past) (b : Books) (new : Installed) (e : Event) (r : Result Reply Fault) → Enters old e r new.past → new.books ≡ booked b e r → Keeps b old.history → Kept new
written old b new e r enters is k = subst (λ (c : Books). Keeps c new.past.history) (sym is) (entering old new.past b e r enters k)

followed : (old : Installed) (index : ℕ) (report : Result Report Fault) (r : Result Reply Fault) (new : Installed) → Follows old index report r new → Kept old → Kept new
followed old index (Ok report) r new turn k = written old.past old.books new (event.Report index report) r turn.0 turn.1 k
followed old index (Err f) r new turn k = subst (λ (i : Installed). Kept i) (sym turn.1) k

-- a look leaves the number and the log of the seat
looking : (s : State) (b : Books) (history : List Entry) (word : ℕ) (own : Option Serials) (seat : Seated) → SeatLooks s b.seat word own seat → Keeps b history
    → Keeps (record b { seat = seat }) history
looking s b history word None seat from k = subst (λ (x : Seated). Keeps (record b { seat = x }) history) (sym from) (record { beside = k.beside; logged = k.logged })
looking s b history word (Some found) seat from k =
    subst (λ (x : Seated). Keeps (record b { seat = x }) history) (sym from.leaves) (record { beside = k.beside; logged = k.logged })

looked_on : (old : Installed) (word : ℕ) (own : Option Serials) (r : ActionOutcome) (new : Installed) → LooksFrom old word own r new → Kept old → Kept new
looked_on old word own r new looks k =
    subst (λ (i : Installed). Kept i) (sym looks.2) (looking old.past.state old.books old.past.history word own new.books.seat looks.1 k)

pub acted : (old : Installed) (a : Action) (r : ActionOutcome) (new : Installed) → PerformsAction old a r new → Kept old → Kept new
acted old (action.Event e) r new acts k = written old.past old.books new e acts.0 acts.2.0 acts.2.1 k
acted old (action.Dev index) r new acts k =
    followed (record old { devices = (device_turn_of old index).devices }) index (device_turn_of old index).report acts.0 new acts.2 (record { beside = k.beside; logged = k.logged })
acted old (action.Glance word) r new acts k = looked_on old word _ r new acts k

pub ran : (old : Installed) (actions : List Action) (outcomes : List ActionOutcome) (new : Installed) → Runs old actions outcomes new → Kept old → Kept new
ran old [] [] new runs k = subst (λ (i : Installed). Kept i) (sym runs) k
ran old [] (r ∷ outcomes) new runs k = absurd runs
ran old (a ∷ actions) [] new runs k = absurd runs
ran old (a ∷ actions) (r ∷ outcomes) new runs k = ran runs.0 actions outcomes new runs.2 (acted old a r runs.0 runs.1 k)
