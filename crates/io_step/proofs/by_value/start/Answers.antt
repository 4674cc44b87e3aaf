use Rattle.std.proofs.Common.{ap, sym, refl, Some, Ok}
use Rattle.std.proofs.lemmas.Result.{err_from_is_err_and}
use Rattle.storage_keys.specs.Storage.{operand_at}
use Rattle.machine_model.specs.State.{with_sub}
use Rattle.machine_model.specs.Results.{does, at_index}
use Rattle.machine_model.specs.State.{lent}
use Rattle.chan_events.specs.Replies.{reply_of}
use Rattle.io_step.proofs.Executions.{given-orb, starts, starts-not}
use Rattle.io_step.proofs.by_value.start.Goals as goal

pub returns-clause-done : goal.returns-clause-done
returns-clause-done c = λ storage cpu word address has s index there.
    let now = lent s storage in
    starts now (Some (record { index = index; sub = c.args.sub.now })) (operand_at storage cpu address 12 4) c.in_ok-orb.orb
    (does (reply_of c.start_sub.result) (with_sub now index c.start_sub.new.sub))
    (given-orb (operand_at storage cpu address 12 4) c.args.orb.now (Ok c.in_ok-orb.orb) has c.in_ok-orb.ensures) (sym (ap (at_index now index) c.start_sub.ensures.left))

pub returns-in_err-orb-clause-done : goal.returns-in_err-orb-clause-done
returns-in_err-orb-clause-done c = let p = err_from_is_err_and c.from_residual.result c.from_residual.ensures.1 in rw (p.1, p.2) (λ storage cpu word address has. (
  λ s index there. starts-not (lent s storage) (Some (record { index = index; sub = c.args.sub.now })) (operand_at storage cpu address 12 4) c.in_err-orb.field-0.0
      (given-orb (operand_at storage cpu address 12 4) c.args.orb.now _ has c.in_err-orb.ensures),
  (refl, refl),
))
