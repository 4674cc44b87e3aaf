use Rattle.std.proofs.Common.{◌∙◌, ap, refl, subst, sym}
use Rattle.schib_block.specs.declared.pmcw.Pmcw.{Pmcw}
use Rattle.schib_block.specs.Modify.{IsAllowedPmcw}
use Rattle.subchannel_model.specs.declared.state.Subchannel.{Subchannel}
use Rattle.subchannel_model.specs.Enable.{enabling}
use Rattle.subchannel_model.specs.Store.{pmcw_of}
use Rattle.chan_events.specs.Replies.{reply_of}
use Rattle.io_step.proofs.Executions.{enables-sub}
use Rattle.io_step.proofs.provided.enable.Goals as goal

pub returns-clause-done : goal.returns-clause-done
returns-clause-done g c = λ word s index there.
    let before = g.M.MainStorage.contents c.args.storage.now in
    let after = g.M.MainStorage.contents c.store_operand.new.self in
    enables-sub s before after c.args.cpu c.number.result c.args.subclass index c.args.multipath c.args.sub.now c.modify_sub.new.sub
    c.enabling-given.result c.scsw.result.now c.block_of-image.result c.words.result.now c.in_ok-check_operand.field-0 (reply_of c.modify_sub.result) c.in_ok-check_operand.ensures.checked c.number.ensures.value
    (c.enabling-given.ensures ∙ ap (λ (p : Pmcw). enabling p c.args.subclass c.args.multipath)
    (c.pmcw.ensures ∙ ap pmcw_of c.sub.view_is)) (c.scsw.ensures ∙ ap (λ (x : Subchannel). x.state.scsw) c.sub.view_is) c.block_of-image.ensures c.store_operand.ensures.stored c.words.ensures.value c.modify_sub.ensures.left

pub modify_sub-requires : goal.modify_sub-requires
modify_sub-requires g c =
    subst IsAllowedPmcw (sym (c.words.ensures.value ∙ (c.enabling-given.ensures ∙ ap (λ (p : Pmcw). enabling p c.args.subclass c.args.multipath) c.pmcw.ensures))) (refl, refl)
