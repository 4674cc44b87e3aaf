-- What a call of a device leaves of a seat, and a turn with the call that it left owed.
use Rattle.std.proofs.Common.{◌≡◌, ℕ, Bool, false, List, Option, None, Some, refl, sym, ap, ◌∙◌, subst, inl}
use Rattle.std.specs.Prelude.{is_some}
use Rattle.chan_model.specs.Reports.{Call}
use Rattle.chan_model.specs.Reports.{DeviceAnswer}
use Rattle.chan_events.specs.declared.reply.Entry.{Entry}
use Rattle.unit_driver.specs.declared.turns.OwedCall.{OwedCall}
use Rattle.unit_driver.specs.declared.waiting.WaitingReport.{WaitingReport}
use Rattle.channel_config.specs.Setup.{Setup}
use Rattle.core_lock.specs.Seats.{Seated}
use Rattle.machine_lock.specs.Working.{MakesOwed}
use Rattle.core_lock.specs.Turns.{Calls, Grew, IsAnswered, IsCalled, IsWaitingFrom, IsOfWorker, IsOwedBy, WorksUnit, one_call_more}
use Rattle.unit_driver.specs.Reporting.{report_of}

none_owed : (o : Option OwedCall) → is_some o ≡ false → o ≡ None
none_owed None is = refl
none_owed (Some owed) is = absurd (cc)

pub not_called : (seat : Seated) → is_some seat.owed ≡ false → IsCalled seat seat
not_called seat is =
    let none = none_owed seat.owed is in
    record {
      number = refl;
      setup = refl;
      directory = refl;
      log = refl;
      turns = refl;
      owed = none;
      waiting = subst (λ (o : Option OwedCall). IsAnswered o seat.waiting seat.waiting) (sym none) refl;
    }

pub called : (old new : Seated) (owed : OwedCall) (answer : DeviceAnswer) → old.owed ≡ Some owed → new ≡ record old { calls = one_call_more old.calls; owed = None; waiting = Some (report_of owed answer) } → IsCalled old new
called old new owed answer was is = record {
  number = ap (λ (s : Seated). s.number) is;
  setup = ap (λ (s : Seated). s.setup) is;
  directory = ap (λ (s : Seated). s.directory) is;
  log = ap (λ (s : Seated). s.log) is;
  turns = ap (λ (s : Seated). s.turns) is;
  owed = ap (λ (s : Seated). s.owed) is;
  waiting = subst (λ (o : Option OwedCall). IsAnswered o old.waiting new.waiting) (sym was) (answer, ap (λ (s : Seated). s.waiting) is);
}

waiting_called : (d : Setup) (roam : Bool) (at : ℕ) (first old new : Option WaitingReport) (o : Option OwedCall) → IsOwedBy d roam at o → IsAnswered o old new → IsWaitingFrom d roam at first old → IsWaitingFrom d roam at first new
waiting_called d roam at first old new None by is from = subst (IsWaitingFrom d roam at first) (sym is) from
waiting_called d roam at first old new (Some owed) by (answer, is) from = subst (IsWaitingFrom d roam at first) (sym is) (inl (owed, answer, by, refl))

pub works_called : (roam : Bool) (at : ℕ) (a b c : Seated) (n : ℕ) → WorksUnit roam at a b n → IsOwedBy a.setup roam at b.owed → IsCalled b c → WorksUnit roam at a c n
works_called roam at a b c n works by called = record {
  number = called.number ∙ works.number;
  setup = called.setup ∙ works.setup;
  directory = called.directory ∙ works.directory;
  waiting = waiting_called a.setup roam at a.waiting b.waiting c.waiting b.owed by called.waiting works.waiting;
  log = subst (λ (l : List Entry). Grew (IsOfWorker a.setup roam at a.waiting) a.log l n) (sym called.log) works.log;
}

module _ {D : Type 0} (passes : ℕ → ℕ → Type 0) (answers : D → Call → DeviceAnswer → D → Type 0) where
  pub not_owed : (seat : Seated) (device : D) → is_some seat.owed ≡ false → MakesOwed passes answers seat device seat device
  not_owed seat device is = inl (none_owed seat.owed is, refl, refl)

  pub was_called : (old : Seated) (device : D) (new : Seated) (after : D) → Calls passes answers old device new after → IsCalled old new
  was_called old device new after c = called old new c.0 c.1 c.2 c.5
