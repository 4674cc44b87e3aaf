use Rattle.std.proofs.Common.{ap, sym, subst, refl, ℕ, None, Result, Err, List, inl, inr}
use Rattle.schib_block.specs.Reading.{pmcw_of_words}
use Rattle.storage_keys.specs.declared.StorageFault.{StorageFault}
use Rattle.storage_keys.specs.Storage.{operand_at}
use Rattle.chan_model.specs.declared.fault.Fault.TheVariants as fault
use Rattle.chan_model.specs.declared.answer.Answer.TheVariants as answer
use Rattle.chan_events.specs.declared.reply.Reply.TheVariants as reply
use Rattle.machine_model.specs.Results.{does}
use Rattle.machine_model.specs.InstructionSteps.{PerformsEnable}
use Rattle.machine_model.specs.State.{lent}
use Rattle.io_step.proofs.Executions.{enables-none, not-allowed, permitted}
use Rattle.io_step.proofs.Reading.{second}
use Rattle.io_step.proofs.absent.enable.Goals as goal

pub returns-then-not-is_allowed-clause-done : goal.returns-then-not-is_allowed-clause-done
returns-then-not-is_allowed-clause-done g c = λ word.
    let before = g.M.MainStorage.contents c.args.storage.now in
    let fetched = permitted (operand_at before c.args.cpu 0xF00 52 4) c.in_ok-image.image c.in_ok-image.ensures in (
      λ s. subst (λ (x : Result (List ℕ) StorageFault). PerformsEnable (lent s before) c.args.cpu None c.args.subclass c.args.multipath x (Err fault.Operand)) (sym fetched)
          (pmcw_of_words c.word_in-words.result, c.word_in-words.ensures.shown, inl (not-allowed (pmcw_of_words c.word_in-words.result) c.is_allowed.result c.if-not-is_allowed.true c.is_allowed.ensures.1, refl)),
      refl,
    )

pub returns-clause-done : goal.returns-clause-done
returns-clause-done g c = λ word s.
    let before = g.M.MainStorage.contents c.args.storage.now in
    let after = g.M.MainStorage.contents c.store_operand.new.self in
    let fetched = permitted (operand_at before c.args.cpu 0xF00 52 4) c.in_ok-image.image c.in_ok-image.ensures in
    let left = enables-none s before after c.args.cpu c.number.result c.args.subclass c.args.multipath c.in_ok-image.image c.be_bytes-placed.result _ c.enabling_word.result
    (second c.in_ok-image.image c.word_in-words.result c.word_in-words.ensures.words) c.enabling_word.ensures c.be_bytes-placed.ensures c.number.ensures.value c.store_operand.ensures.stored in
    subst (λ (x : Result (List ℕ) StorageFault). PerformsEnable (lent s before) c.args.cpu None c.args.subclass c.args.multipath x
    (does (reply.Code answer.Three) (lent s after))) (sym fetched)
    (pmcw_of_words c.word_in-words.result, c.word_in-words.ensures.shown, inr (c.is_allowed.ensures.0 c.if-not-is_allowed.false, ap (does (reply.Code answer.Three)) left))
