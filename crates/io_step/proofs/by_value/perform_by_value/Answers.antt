use Rattle.std.proofs.Common.{ap, Some}
use Rattle.std.proofs.lemmas.Result.{err_from_is_err_and}
use Rattle.subchannel_model.specs.declared.state.Subchannel.{Subchannel}
use Rattle.io_step.specs.Performing.{lent}
use Rattle.io_step.proofs.by_value.perform_by_value.Goals as goal

pub returns-in_err-answered-clause-done : goal.returns-in_err-answered-clause-done
returns-in_err-answered-clause-done c = let p = err_from_is_err_and c.from_residual.result c.from_residual.ensures.1 in rw (p.1, p.2) (λ storage cpu word address has.
    let done = c.in_err-answered.ensures.done storage cpu word address has in
    (done, ap (λ (x : Subchannel). lent storage (Some x) c.args.pending.now) done.1.0))
