use Rattle.std.proofs.Common.{refl, None, Ok, Err}
use Rattle.std.proofs.lemmas.Result.{err_from_is_err_and}
use Rattle.schib_block.specs.Reading.{pmcw_of_words}
use Rattle.storage_keys.specs.Storage.{operand_at}
use Rattle.chan_model.specs.declared.answer.Answer.TheVariants as answer
use Rattle.chan_events.specs.declared.reply.Reply.TheVariants as reply
use Rattle.machine_model.specs.Results.{does}
use Rattle.machine_model.specs.State.{lent}
use Rattle.io_step.proofs.Executions.{given-word, modifies, modifies-not}
use Rattle.io_step.proofs.absent.modify_by_value.Goals as goal

pub returns : goal.returns
returns c = λ storage cpu word address has s.
    let fetched = operand_at storage cpu address 52 4 in
    let given = pmcw_of_words c.in_ok-allowed_word.field-0 in
    modifies (lent s storage) None fetched given (does (reply.Code answer.Three) (lent s storage))
    (given-word fetched c.args.schib.now (Ok given) has c.in_ok-allowed_word.ensures.word) refl

pub returns-in_err-allowed_word : goal.returns-in_err-allowed_word
returns-in_err-allowed_word c = let p = err_from_is_err_and c.from_residual.result c.from_residual.ensures.1 in rw (p.1, p.2) (λ storage cpu word address has. (
  λ s. let fetched = operand_at storage cpu address 52 4 in
      modifies-not (lent s storage) None fetched c.in_err-allowed_word.field-0.0
      (given-word fetched c.args.schib.now (Err c.in_err-allowed_word.field-0.0) has c.in_err-allowed_word.ensures.refused),
  refl,
))
