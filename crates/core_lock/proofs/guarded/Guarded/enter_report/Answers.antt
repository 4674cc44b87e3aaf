use Rattle.std.proofs.Common.{Bool, Result, sym, subst}
use Rattle.chan_model.specs.declared.fault.Fault.{Fault}
use Rattle.core_lock.specs.Turns.{EntersReport}
use Rattle.core_lock.proofs.Handing.{entered_ok, entered_err}
use Rattle.core_lock.proofs.guarded.Guarded.enter_report.Goals as goal

pub returns-in-Ok : goal.returns-in-Ok
returns-in-Ok g c =
    entered_ok g.P.PathChoice.picks c.args.self.now c.args.seat.now c.args.waiting c.event-event.result c.in-Ok.entered c.try_enter-outcome.new.self.value c.try_enter-outcome.new.seat.value c.event-event.ensures c.in-Ok.ensures

pub returns-in-Err : goal.returns-in-Err
returns-in-Err g c =
    subst (λ (r : Result Bool Fault). EntersReport g.P.PathChoice.picks c.args.self.now c.args.seat.now c.args.waiting r c.try_enter-outcome.new.self.value c.keep.new.self.value) (sym c.keep.ensures.result)
    (entered_err g.P.PathChoice.picks c.args.self.now c.args.seat.now c.args.waiting c.event-event.result c.in-Err.fault c.try_enter-outcome.new.self.value c.try_enter-outcome.new.seat.value c.keep.new.self.value c.event-event.ensures c.in-Err.ensures c.keep.ensures.seat)
