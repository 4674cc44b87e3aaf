use Rattle.std.proofs.Common.{ap, sym, refl, Some, Ok, Err}
use Rattle.std.proofs.lemmas.Result.{err_from_is_err_and}
use Rattle.schib_block.specs.Reading.{pmcw_of_words}
use Rattle.storage_keys.specs.Storage.{operand_at}
use Rattle.machine_model.specs.State.{with_sub}
use Rattle.machine_model.specs.Results.{does, at_index}
use Rattle.machine_model.specs.State.{lent}
use Rattle.chan_events.specs.Replies.{reply_of}
use Rattle.io_step.proofs.Executions.{given-word, modifies, modifies-not}
use Rattle.io_step.proofs.by_value.modify.Goals as goal

pub returns-clause-done : goal.returns-clause-done
returns-clause-done c = λ storage cpu word address has s index there.
    let now = lent s storage in
    let fetched = operand_at storage cpu address 52 4 in
    modifies now (Some (record { index = index; sub = c.args.sub.now })) fetched (pmcw_of_words c.in_ok-given.given)
    (does (reply_of c.modify_sub.result) (with_sub now index c.modify_sub.new.sub))
    (given-word fetched c.args.schib.now (Ok (pmcw_of_words c.in_ok-given.given)) has c.in_ok-given.ensures.word) (sym (ap (at_index now index) c.modify_sub.ensures.left))

pub returns-in_err-given-clause-done : goal.returns-in_err-given-clause-done
returns-in_err-given-clause-done c = let p = err_from_is_err_and c.from_residual.result c.from_residual.ensures.1 in rw (p.1, p.2) (λ storage cpu word address has. (
  λ s index there. let fetched = operand_at storage cpu address 52 4 in
      modifies-not (lent s storage) (Some (record { index = index; sub = c.args.sub.now }))
      fetched c.in_err-given.field-0.0 (given-word fetched c.args.schib.now (Err c.in_err-given.field-0.0) has c.in_err-given.ensures.refused),
  (refl, refl),
))
