use Rattle.std.proofs.Common.{◌∙◌, ap, sym, Bool, false, subst, Some}
use Rattle.std.specs.Bool.{OnFalse}
use Rattle.chan_model.specs.Signals.{Down}
use Rattle.chan_model.specs.declared.signal.OnPath.{OnPath}
use Rattle.chan_model.specs.Lent.{lent_up}
use Rattle.subchannel.specs.Answering.{IsAnswerPath}
use Rattle.subchannel_model.specs.declared.state.Subchannel.{Subchannel}
use Rattle.subchannel_model.specs.Sending.{carried_by}
use Rattle.subchannel_model.specs.Taking.{takes_up}
use Rattle.active_program.specs.Sent.{sent_path}
use Rattle.signal_step.specs.Giving.{TellsFull}
use Rattle.signal_step.proofs.Answered.{tells_none, tells_nothing, tells_some}
use Rattle.signal_step.proofs.turns.up_finds_full.Goals as goal

pub returns-then-not-answers_may_find_full : goal.returns-then-not-answers_may_find_full
returns-then-not-answers_may_find_full g c =
    let storage = g.M.MainStorage.contents c.args.storage.now in
    let sub = c.args.sub.now in
    let phase = sub.state.hold.phase in
    tells_none sub.state.pmcw.available sub.wires.down _ phase c.args.path
    (c.answer_paths.ensures c.args.returns storage sub.state c.args.path (lent_up c.args.signal.now))
    (subst (λ (b : Bool). OnFalse b ((s : OnPath Down) → IsAnswerPath phase c.args.path (Some s.path) → TellsFull sub.wires.down (carried_by sub (Some s)) false))
    c.if-not-answers_may_find_full.true c.answers_may_find_full.ensures)

pub returns-in-Some : goal.returns-in-Some
returns-in-Some g c =
    let storage = g.M.MainStorage.contents c.args.storage.now in
    let sub = c.args.sub.now in
    let sends = λ (x : Subchannel). (takes_up c.args.returns storage x.state c.args.path (lent_up c.args.signal.now)).step.outcome.sent in
    tells_some sub.state.pmcw.available sub.wires.down (sends sub) c.in-Some.at c.finds_down_full.result
    (ap (λ (x : Subchannel). sent_path (sends x)) (sym c.sub.view_is) ∙ c.in-Some.ensures) c.finds_down_full.ensures

pub returns-in-None : goal.returns-in-None
returns-in-None g c =
    let storage = g.M.MainStorage.contents c.args.storage.now in
    let sub = c.args.sub.now in
    let sends = λ (x : Subchannel). (takes_up c.args.returns storage x.state c.args.path (lent_up c.args.signal.now)).step.outcome.sent in
    tells_nothing sub.state.pmcw.available sub.wires.down (sends sub)
    (ap (λ (x : Subchannel). sent_path (sends x)) (sym c.sub.view_is) ∙ (c.answer_path.ensures ∙ c.in-None.is))
