use Rattle.std.proofs.lemmas.Result.{err_from_is_err_and}
use Rattle.event_log.specs.Logs.{last_reply}
use Rattle.core_lock.proofs.Trying.{tries_ok, tries_err}
use Rattle.core_lock.proofs.guarded.Guarded.try_enter.Goals as goal

pub returns : goal.returns
returns g c =
    let new = c.perform_with.new.self in
    tries_ok g.P.PathChoice.picks c.args.self.now new c.args.seat.now c.perform_with.new.seat c.args.event.now (last_reply new.value.history) c.in_ok-perform_with.ensures.entered

pub returns-in_err-perform_with : goal.returns-in_err-perform_with
returns-in_err-perform_with g c =
    let p = err_from_is_err_and c.from_residual.result c.from_residual.ensures.1 in
    rw (p.1, p.2) (tries_err g.P.PathChoice.picks c.args.self.now c.perform_with.new.self c.args.seat.now c.perform_with.new.seat c.args.event.now _ c.in_err-perform_with.ensures.entered)
