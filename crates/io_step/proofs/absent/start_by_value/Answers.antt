use Rattle.std.proofs.Common.{refl, None, Ok}
use Rattle.std.proofs.lemmas.Result.{err_from_is_err_and}
use Rattle.storage_keys.specs.Storage.{operand_at}
use Rattle.chan_model.specs.declared.answer.Answer.TheVariants as answer
use Rattle.chan_events.specs.declared.reply.Reply.TheVariants as reply
use Rattle.machine_model.specs.Results.{does}
use Rattle.machine_model.specs.State.{lent}
use Rattle.io_step.proofs.Executions.{given-orb, starts, starts-not}
use Rattle.io_step.proofs.absent.start_by_value.Goals as goal

pub returns : goal.returns
returns c = λ storage cpu word address has s.
    let fetched = operand_at storage cpu address 12 4 in
    starts (lent s storage) None fetched c.in_ok-allowed_orb.field-0
    (does (reply.Code answer.Three) (lent s storage)) (given-orb fetched c.args.orb.now (Ok c.in_ok-allowed_orb.field-0) has c.in_ok-allowed_orb.ensures) refl

pub returns-in_err-allowed_orb : goal.returns-in_err-allowed_orb
returns-in_err-allowed_orb c = let p = err_from_is_err_and c.from_residual.result c.from_residual.ensures.1 in rw (p.1, p.2) (λ storage cpu word address has. (
  λ s. let fetched = operand_at storage cpu address 12 4 in
      starts-not (lent s storage) None fetched c.in_err-allowed_orb.field-0.0 (given-orb fetched c.args.orb.now _ has c.in_err-allowed_orb.ensures),
  refl,
))
