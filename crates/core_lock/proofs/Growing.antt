-- Logs that grow by what workers enter.
use Rattle.std.proofs.Common.{◌≡◌, ℕ, zero, suc, ◌+◌, arith, Bool, true, false, List, [], ◌∷◌, ◌++◌, Option, None, Some, Result, Ok, Err, refl, sym, ap, ◌∙◌, subst, append_assoc, append-nil, length-append, inl, inr}
use Rattle.std.specs.Prelude.{All}
use Rattle.std.proofs.lemmas.List.Elements.{All-append, All-weaker}
use Rattle.chan_model.specs.declared.fault.Fault.{Fault}
use Rattle.chan_model.specs.declared.fault.Fault.TheVariants as fault
use Rattle.chan_events.specs.Events.{Event}
use Rattle.chan_events.specs.declared.event.Event.TheVariants as event
use Rattle.chan_events.specs.declared.event.UnitAct.TheVariants as act
use Rattle.chan_events.specs.declared.reply.Entry.{Entry}
use Rattle.chan_events.specs.Replies.{Reply}
use Rattle.unit_driver.specs.declared.waiting.WaitingReport.{WaitingReport}
use Rattle.unit_driver.specs.declared.turns.Turn.{Turn}
use Rattle.unit_driver.specs.declared.turns.Turn.TheVariants.{Enters, Leaves, Owes, Rests}
use Rattle.channel_config.specs.Setup.{Setup}
use Rattle.path_select.specs.Choice.{Rule}
use Rattle.core_lock.specs.Seats.{Guarded, GuardedCore, HeldSeat, Seated, entry}
use Rattle.core_lock.specs.Entering.{entered}
use Rattle.unit_driver.specs.Waiting.{report_event, waits_after}
use Rattle.unit_driver.specs.Turns.{turn_of}
use Rattle.core_lock.specs.Turns.{turned_seat, emptied_seat, turn_of_path, with_left, with_owed, Tries, Passes, EntersReport, TakesTurn, TakesUnitTurn, TakesPathTurn, MayStand, MayTurn, IsOfPath, IsOfWorker, Grew, IsWaitingFrom, IsOwedBy, WorksPath, WorksUnit, count_in}

all_none : (P : Entry → Type 0) → All P []
all_none P k d lt = absurd (omega arith)

all_one : (P : Entry → Type 0) (e : Entry) → P e → All P (e ∷ [])
all_one P e p zero d lt = p
all_one P e p (suc k) d lt = absurd (omega arith)

module _ (P : Event → Type 0) where
  pub grew_none : (old new : List Entry) → new ≡ old → Grew P old new 0
  grew_none old new is = ([], is ∙ sym (append-nil old), refl, all_none (λ (e : Entry). P e.event))

  pub grew_one : (old new : List Entry) (e : Event) (r : Reply) → new ≡ old ++ entry e r ∷ [] → P e → Grew P old new 1
  grew_one old new e r is p = (entry e r ∷ [], is, refl, all_one (λ (e : Entry). P e.event) (entry e r) p)

  pub grew_more : (a b c : List Entry) (m n : ℕ) → Grew P a b m → Grew P b c n → Grew P a c (m + n)
  grew_more a b c m n (xs, b_is, lm, pm) (ys, c_is, ln, pn) =
      (xs ++ ys, c_is ∙ ap (λ l. l ++ ys) b_is ∙ append_assoc a xs ys, length-append xs ys ∙ (λ i. lm i + ln i), All-append (λ (e : Entry). P e.event) xs ys pm pn)

  tries_grows : (picks : Rule) (old : GuardedCore) (seat : HeldSeat) (last : Seated) (e : Event) (result : Result Bool Fault) (new : Guarded) (after : Seated) → last.log ≡ seat.value.log → P e → Tries picks old seat last e result new after → Grew P seat.value.log after.log (count_in result)
  tries_grows picks old seat last e (Ok true) new after same p (r, enters) =
      grew_one seat.value.log after.log e r (ap (λ (s : Seated). s.log) enters.0.3 ∙ ap (λ l. l ++ entry e r ∷ []) same) p
  tries_grows picks old seat last e (Ok false) new after same p t = absurd t
  tries_grows picks old seat last e (Err f) new after same p (may, core, is) = grew_none seat.value.log after.log (ap (λ (s : Seated). s.log) is)

  passes_grows : (old : GuardedCore) (seat : Seated) (result : Result Bool Fault) (new : Guarded) (after : Seated) → Passes old seat result new after → Grew P seat.log after.log (count_in result)
  passes_grows old seat result new after (is, core, same) =
      subst (λ n. Grew P seat.log after.log n) (sym (ap count_in is)) (grew_none seat.log after.log (ap (λ (s : Seated). s.log) same))

pub grew_wider : (P Q : Event → Type 0) (old new : List Entry) (n : ℕ) → ((e : Event) → P e → Q e) → Grew P old new n → Grew Q old new n
grew_wider P Q old new n wider (more, is, len, all) = (more, is, len, All-weaker (λ (e : Entry). P e.event) (λ (e : Entry). Q e.event) (λ (e : Entry). wider e.event) more all)

-- what an event that is entered does not change of a seat
module _ {A : Type 0} (f : Seated → A) (stays : (s : Seated) (e : Event) (r : Reply) → f (entered s e r) ≡ f s) where
  tries_same : (picks : Rule) (old : GuardedCore) (seat : HeldSeat) (last : Seated) (e : Event) (result : Result Bool Fault) (new : Guarded) (after : Seated) → f last ≡ f seat.value → Tries picks old seat last e result new after → f after ≡ f seat.value
  tries_same picks old seat last e (Ok true) new after same (r, enters) = ap f enters.0.3 ∙ stays last e r ∙ same
  tries_same picks old seat last e (Ok false) new after same t = absurd t
  tries_same picks old seat last e (Err fault) new after same (may, core, is) = ap f is

-- what turns of a path's worker leave
takes_path_turn : (picks : Rule) (chpid : ℕ) (old : GuardedCore) (seat : HeldSeat) (o : Option Event) (result : Result Bool Fault) (new : Guarded) (after : Seated) → ((e : Event) → o ≡ Some e → IsOfPath seat.value.setup chpid e) → TakesPathTurn picks old seat o result new after → WorksPath chpid seat.value after (count_in result)
takes_path_turn picks chpid old seat None result new after all t = record {
  number = ap (λ (s : Seated). s.number) t.2;
  setup = ap (λ (s : Seated). s.setup) t.2;
  directory = ap (λ (s : Seated). s.directory) t.2;
  owed = ap (λ (s : Seated). s.owed) t.2;
  log = passes_grows (IsOfPath seat.value.setup chpid) old seat.value result new after t;
}
takes_path_turn picks chpid old seat (Some e) result new after all t = record {
  number = tries_same (λ (s : Seated). s.number) (λ s x r. refl) picks old seat seat.value e result new after refl t;
  setup = tries_same (λ (s : Seated). s.setup) (λ s x r. refl) picks old seat seat.value e result new after refl t;
  directory = tries_same (λ (s : Seated). s.directory) (λ s x r. refl) picks old seat seat.value e result new after refl t;
  owed = tries_same (λ (s : Seated). s.owed) (λ s x r. refl) picks old seat seat.value e result new after refl t;
  log = tries_grows (IsOfPath seat.value.setup chpid) picks old seat seat.value e result new after refl (all e refl) t;
}

pub path_works : (picks : Rule) (old : GuardedCore) (seat : HeldSeat) (chpid : ℕ) (result : Result Bool Fault) (new : Guarded) (after : Seated) → MayStand seat.value.setup old.value.state → TakesPathTurn picks old (turned_seat seat) (turn_of_path old.value.state chpid) result new after → WorksPath chpid seat.value after (count_in result)
path_works picks old seat chpid result new after stands t =
    let among : (e : Event) → turn_of_path old.value.state chpid ≡ Some e → IsOfPath seat.value.setup chpid e =
    λ e is. (old.value.state, stands, is) in
    let w = takes_path_turn picks chpid old (turned_seat seat) (turn_of_path old.value.state chpid) result new after among t in
    record { number = w.number; setup = w.setup; directory = w.directory; owed = w.owed; log = w.log }

-- a turn of a path's worker is counted by itself
pub path_turns : (picks : Rule) (old : GuardedCore) (seat : HeldSeat) (o : Option Event) (result : Result Bool Fault) (new : Guarded) (after : Seated) → TakesPathTurn picks old seat o result new after → after.turns ≡ seat.value.turns
path_turns picks old seat None result new after t = ap (λ (s : Seated). s.turns) t.2
path_turns picks old seat (Some e) result new after t = tries_same (λ (s : Seated). s.turns) (λ s x r. refl) picks old seat seat.value e result new after refl t

-- what turns of a unit's worker leave
module _ (d : Setup) (roam : Bool) (at : ℕ) where
  none_waiting : (old now : Option WaitingReport) → now ≡ None → IsWaitingFrom d roam at old now
  none_waiting old now is = subst (λ (o : Option WaitingReport). IsWaitingFrom d roam at old o) (sym is) tt

  some_waiting : (old now : Option WaitingReport) (waiting : WaitingReport) → old ≡ Some waiting → now ≡ Some waiting → IsWaitingFrom d roam at old now
  some_waiting old now waiting was is = subst (λ (o : Option WaitingReport). IsWaitingFrom d roam at old o) (sym is) (inr was)

  waiting_by : (waiting : WaitingReport) (f : Fault) (now : Option WaitingReport) → now ≡ waits_after (report_event waiting) f → IsWaitingFrom d roam at (Some waiting) now
  waiting_by waiting fault.NoMemory now is = some_waiting (Some waiting) now waiting refl is
  waiting_by waiting fault.WireFull now is = some_waiting (Some waiting) now waiting refl is
  waiting_by waiting fault.NotSent now is = none_waiting (Some waiting) now is
  waiting_by waiting fault.NoSuchSubchannel now is = none_waiting (Some waiting) now is
  waiting_by waiting fault.NoSuchPath now is = none_waiting (Some waiting) now is
  waiting_by waiting fault.NoSuchUnit now is = none_waiting (Some waiting) now is
  waiting_by waiting fault.NotNow now is = none_waiting (Some waiting) now is
  waiting_by waiting (fault.ConfigBad rule) now is = none_waiting (Some waiting) now is
  waiting_by waiting (fault.ScriptBad line rule) now is = none_waiting (Some waiting) now is
  waiting_by waiting (fault.Storage kind) now is = none_waiting (Some waiting) now is
  waiting_by waiting fault.Operand now is = none_waiting (Some waiting) now is

  kept_on : (a b c : Option WaitingReport) → IsWaitingFrom d roam at a b → IsWaitingFrom d roam at b c → IsWaitingFrom d roam at a c
  kept_on a b None p q = tt
  kept_on a b (Some k) p (inl same) = inl same
  kept_on a b (Some k) p (inr is) = subst (λ (o : Option WaitingReport). IsWaitingFrom d roam at a o) is p

  of_worker : (a b : Option WaitingReport) (e : Event) → IsWaitingFrom d roam at a b → IsOfWorker d roam at b e → IsOfWorker d roam at a e
  of_worker a b e p (inl is) = inl is
  of_worker a b e p (inr (waiting, from, is)) = inr (waiting, kept_on a b (Some waiting) p from, is)

takes_turn : (picks : Rule) (old : GuardedCore) (seat : HeldSeat) (roam : Bool) (at : ℕ) (t : Turn) (result : Result Bool Fault) (new : Guarded) (after : Seated) → MayTurn seat.value.setup roam at t → seat.value.waiting ≡ None → TakesTurn picks old seat t result new after → WorksUnit roam at seat.value after (count_in result)
takes_turn picks old seat roam at (Enters e) result new after may none t = record {
  number = tries_same (λ (s : Seated). s.number) (λ s x r. refl) picks old seat seat.value e result new after refl t;
  setup = tries_same (λ (s : Seated). s.setup) (λ s x r. refl) picks old seat seat.value e result new after refl t;
  directory = tries_same (λ (s : Seated). s.directory) (λ s x r. refl) picks old seat seat.value e result new after refl t;
  waiting = none_waiting seat.value.setup roam at seat.value.waiting after.waiting (tries_same (λ (s : Seated). s.waiting) (λ s x r. refl) picks old seat seat.value e result new after refl t ∙ none);
  log = tries_grows (IsOfWorker seat.value.setup roam at seat.value.waiting) picks old seat seat.value e result new after refl (inl (Enters e, may, refl)) t;
}
takes_turn picks old seat roam at (Leaves command) result new after may none t =
    let last = with_left seat.value (Some command) in
    let e = event.Act command.«unit» act.Leave in
    record {
      number = tries_same (λ (s : Seated). s.number) (λ s x r. refl) picks old seat last e result new after refl t;
      setup = tries_same (λ (s : Seated). s.setup) (λ s x r. refl) picks old seat last e result new after refl t;
      directory = tries_same (λ (s : Seated). s.directory) (λ s x r. refl) picks old seat last e result new after refl t;
      waiting = none_waiting seat.value.setup roam at seat.value.waiting after.waiting (tries_same (λ (s : Seated). s.waiting) (λ s x r. refl) picks old seat last e result new after refl t ∙ none);
      log = tries_grows (IsOfWorker seat.value.setup roam at seat.value.waiting) picks old seat last e result new after refl (inl (Leaves command, may, refl)) t;
    }
takes_turn picks old seat roam at (Owes owed) result new after may none t = record {
  number = ap (λ (s : Seated). s.number) t.2;
  setup = ap (λ (s : Seated). s.setup) t.2;
  directory = ap (λ (s : Seated). s.directory) t.2;
  waiting = none_waiting seat.value.setup roam at seat.value.waiting after.waiting (ap (λ (s : Seated). s.waiting) t.2 ∙ none);
  log = passes_grows (IsOfWorker seat.value.setup roam at seat.value.waiting) old (with_owed seat.value (Some owed)) result new after t;
}
takes_turn picks old seat roam at Rests result new after may none t = record {
  number = ap (λ (s : Seated). s.number) t.2;
  setup = ap (λ (s : Seated). s.setup) t.2;
  directory = ap (λ (s : Seated). s.directory) t.2;
  waiting = none_waiting seat.value.setup roam at seat.value.waiting after.waiting (ap (λ (s : Seated). s.waiting) t.2 ∙ none);
  log = passes_grows (IsOfWorker seat.value.setup roam at seat.value.waiting) old seat.value result new after t;
}

-- what is handed in
pub record Handed (roam : Bool) (at : ℕ) (report : WaitingReport) (seat after : Seated) (count : ℕ) : Type 0 where
  pub number : after.number ≡ seat.number
  pub setup : after.setup ≡ seat.setup
  pub directory : after.directory ≡ seat.directory
  pub owed : after.owed ≡ seat.owed
  pub waiting : IsWaitingFrom seat.setup roam at (Some report) after.waiting
  pub log : Grew (IsOfWorker seat.setup roam at (Some report)) seat.log after.log count

handed : (picks : Rule) (old : GuardedCore) (seat : HeldSeat) (roam : Bool) (at : ℕ) (waiting : WaitingReport) (result : Result Bool Fault) (new : Guarded) (after : Seated) → seat.value.waiting ≡ None → EntersReport picks old seat waiting result new after → Handed roam at waiting seat.value after (count_in result)
handed picks old seat roam at waiting (Ok true) new after none (r, enters) = record {
  number = ap (λ (s : Seated). s.number) enters.0.3;
  setup = ap (λ (s : Seated). s.setup) enters.0.3;
  directory = ap (λ (s : Seated). s.directory) enters.0.3;
  owed = ap (λ (s : Seated). s.owed) enters.0.3;
  waiting = none_waiting seat.value.setup roam at (Some waiting) after.waiting (ap (λ (s : Seated). s.waiting) enters.0.3 ∙ none);
  log = grew_one (IsOfWorker seat.value.setup roam at (Some waiting)) seat.value.log after.log (report_event waiting) r (ap (λ (s : Seated). s.log) enters.0.3) (inr (waiting, inr refl, refl));
}
handed picks old seat roam at waiting (Ok false) new after none (may, core, is) = record {
  number = ap (λ (s : Seated). s.number) is;
  setup = ap (λ (s : Seated). s.setup) is;
  directory = ap (λ (s : Seated). s.directory) is;
  owed = ap (λ (s : Seated). s.owed) is;
  waiting = none_waiting seat.value.setup roam at (Some waiting) after.waiting (ap (λ (s : Seated). s.waiting) is);
  log = grew_none (IsOfWorker seat.value.setup roam at (Some waiting)) seat.value.log after.log (ap (λ (s : Seated). s.log) is);
}
handed picks old seat roam at waiting (Err f) new after none (other, may, core, is) = record {
  number = ap (λ (s : Seated). s.number) is;
  setup = ap (λ (s : Seated). s.setup) is;
  directory = ap (λ (s : Seated). s.directory) is;
  owed = ap (λ (s : Seated). s.owed) is;
  waiting = waiting_by seat.value.setup roam at waiting f after.waiting (ap (λ (s : Seated). s.waiting) is);
  log = grew_none (IsOfWorker seat.value.setup roam at (Some waiting)) seat.value.log after.log (ap (λ (s : Seated). s.log) is);
}

unit_turn_works : (picks : Rule) (old : GuardedCore) (seat : HeldSeat) (k : Option WaitingReport) (at : ℕ) (roam : Bool) (result : Result Bool Fault) (new : Guarded) (after : Seated) → MayStand seat.value.setup old.value.state → seat.value.waiting ≡ k → TakesUnitTurn picks old (turned_seat seat) k at roam result new after → WorksUnit roam at seat.value after (count_in result)
unit_turn_works picks old seat None at roam result new after stands is t =
    let w = takes_turn picks old (turned_seat seat) roam at (turn_of roam seat.value.left at old.value.state) result new after (old.value.state, stands, seat.value.left, refl) is t in
    record { number = w.number; setup = w.setup; directory = w.directory; waiting = w.waiting; log = w.log }
unit_turn_works picks old seat (Some waiting) at roam result new after stands is t =
    let w = handed picks old (emptied_seat (turned_seat seat)) roam at waiting result new after refl t in
    record {
      number = w.number;
      setup = w.setup;
      directory = w.directory;
      waiting = subst (λ (o : Option WaitingReport). IsWaitingFrom seat.value.setup roam at o after.waiting) (sym is) w.waiting;
      log = subst (λ (o : Option WaitingReport). Grew (IsOfWorker seat.value.setup roam at o) seat.value.log after.log (count_in result)) (sym is) w.log;
    }

pub unit_works : (picks : Rule) (old : GuardedCore) (seat : HeldSeat) (at : ℕ) (roam : Bool) (result : Result Bool Fault) (new : Guarded) (after : Seated) → MayStand seat.value.setup old.value.state → TakesUnitTurn picks old (turned_seat seat) seat.value.waiting at roam result new after → WorksUnit roam at seat.value after (count_in result)
unit_works picks old seat at roam result new after stands t = unit_turn_works picks old seat seat.value.waiting at roam result new after stands refl t

-- what is owed after a turn
turn_owed : (picks : Rule) (old : GuardedCore) (seat : HeldSeat) (roam : Bool) (at : ℕ) (t : Turn) (result : Result Bool Fault) (new : Guarded) (after : Seated) → MayTurn seat.value.setup roam at t → seat.value.owed ≡ None → TakesTurn picks old seat t result new after → IsOwedBy seat.value.setup roam at after.owed
turn_owed picks old seat roam at (Enters e) result new after may none t =
    subst (IsOwedBy seat.value.setup roam at) (sym (tries_same (λ (s : Seated). s.owed) (λ s x r. refl) picks old seat seat.value e result new after refl t ∙ none)) tt
turn_owed picks old seat roam at (Leaves command) result new after may none t =
    subst (IsOwedBy seat.value.setup roam at) (sym (tries_same (λ (s : Seated). s.owed) (λ s x r. refl) picks old seat (with_left seat.value (Some command)) (event.Act command.«unit» act.Leave) result new after refl t ∙ none)) tt
turn_owed picks old seat roam at (Owes owed) result new after may none t = subst (IsOwedBy seat.value.setup roam at) (sym (ap (λ (s : Seated). s.owed) t.2)) may
turn_owed picks old seat roam at Rests result new after may none t = subst (IsOwedBy seat.value.setup roam at) (sym (ap (λ (s : Seated). s.owed) t.2 ∙ none)) tt

unit_turn_owed : (picks : Rule) (old : GuardedCore) (seat : HeldSeat) (k : Option WaitingReport) (at : ℕ) (roam : Bool) (result : Result Bool Fault) (new : Guarded) (after : Seated) → MayStand seat.value.setup old.value.state → seat.value.owed ≡ None → TakesUnitTurn picks old seat k at roam result new after → IsOwedBy seat.value.setup roam at after.owed
unit_turn_owed picks old seat None at roam result new after stands none t =
    turn_owed picks old seat roam at (turn_of roam seat.value.left at old.value.state) result new after (old.value.state, stands, seat.value.left, refl) none t
unit_turn_owed picks old seat (Some waiting) at roam result new after stands none t =
    subst (IsOwedBy seat.value.setup roam at) (sym ((handed picks old (emptied_seat seat) roam at waiting result new after refl t).owed ∙ none)) tt

pub unit_owed : (picks : Rule) (old : GuardedCore) (seat : HeldSeat) (at : ℕ) (roam : Bool) (result : Result Bool Fault) (new : Guarded) (after : Seated) → MayStand seat.value.setup old.value.state → seat.value.owed ≡ None → TakesUnitTurn picks old (turned_seat seat) seat.value.waiting at roam result new after → IsOwedBy seat.value.setup roam at after.owed
unit_owed picks old seat at roam result new after stands none t = unit_turn_owed picks old (turned_seat seat) seat.value.waiting at roam result new after stands none t

-- a turn is counted by itself: what it is for adds none
takes_turns : (picks : Rule) (old : GuardedCore) (seat : HeldSeat) (t : Turn) (result : Result Bool Fault) (new : Guarded) (after : Seated) → TakesTurn picks old seat t result new after → after.turns ≡ seat.value.turns
takes_turns picks old seat (Enters e) result new after t = tries_same (λ (s : Seated). s.turns) (λ s x r. refl) picks old seat seat.value e result new after refl t
takes_turns picks old seat (Leaves command) result new after t =
    tries_same (λ (s : Seated). s.turns) (λ s x r. refl) picks old seat (with_left seat.value (Some command)) (event.Act command.«unit» act.Leave) result new after refl t
takes_turns picks old seat (Owes owed) result new after t = ap (λ (s : Seated). s.turns) t.2
takes_turns picks old seat Rests result new after t = ap (λ (s : Seated). s.turns) t.2

hands_turns : (picks : Rule) (old : GuardedCore) (seat : HeldSeat) (waiting : WaitingReport) (result : Result Bool Fault) (new : Guarded) (after : Seated) → EntersReport picks old seat waiting result new after → after.turns ≡ seat.value.turns
hands_turns picks old seat waiting (Ok true) new after (r, enters) = ap (λ (s : Seated). s.turns) enters.0.3
hands_turns picks old seat waiting (Ok false) new after (may, core, is) = ap (λ (s : Seated). s.turns) is
hands_turns picks old seat waiting (Err f) new after (other, may, core, is) = ap (λ (s : Seated). s.turns) is

pub unit_turns : (picks : Rule) (old : GuardedCore) (seat : HeldSeat) (k : Option WaitingReport) (at : ℕ) (roam : Bool) (result : Result Bool Fault) (new : Guarded) (after : Seated) → TakesUnitTurn picks old seat k at roam result new after → after.turns ≡ seat.value.turns
unit_turns picks old seat None at roam result new after t = takes_turns picks old seat (turn_of roam seat.value.left at old.value.state) result new after t
unit_turns picks old seat (Some waiting) at roam result new after t = hands_turns picks old (emptied_seat seat) waiting result new after t

-- turn after turn
pub works_more : (roam : Bool) (at : ℕ) (a b c : Seated) (m n : ℕ) → WorksUnit roam at a b m → WorksUnit roam at b c n → WorksUnit roam at a c (m + n)
works_more roam at a b c m n p q =
    let waiting = subst (λ (d : Setup). IsWaitingFrom d roam at b.waiting c.waiting) p.setup q.waiting in
    let log = subst (λ (d : Setup). Grew (IsOfWorker d roam at b.waiting) b.log c.log n) p.setup q.log in
    record {
      number = q.number ∙ p.number;
      setup = q.setup ∙ p.setup;
      directory = q.directory ∙ p.directory;
      waiting = kept_on a.setup roam at a.waiting b.waiting c.waiting p.waiting waiting;
      log = grew_more (IsOfWorker a.setup roam at a.waiting) a.log b.log c.log m n p.log
          (grew_wider (IsOfWorker a.setup roam at b.waiting) (IsOfWorker a.setup roam at a.waiting) b.log c.log n (λ e. of_worker a.setup roam at a.waiting b.waiting e p.waiting) log);
    }

pub paths_more : (chpid : ℕ) (a b c : Seated) (m n : ℕ) → WorksPath chpid a b m → WorksPath chpid b c n → WorksPath chpid a c (m + n)
paths_more chpid a b c m n p q = record {
  number = q.number ∙ p.number;
  setup = q.setup ∙ p.setup;
  directory = q.directory ∙ p.directory;
  owed = q.owed ∙ p.owed;
  log = grew_more (IsOfPath a.setup chpid) a.log b.log c.log m n p.log (subst (λ (d : Setup). Grew (IsOfPath d chpid) b.log c.log n) p.setup q.log);
}
