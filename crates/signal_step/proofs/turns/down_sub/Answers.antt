use Rattle.std.proofs.Common.{◌≡◌, sym, ◌∙◌, ap, ap₂, subst, ℕ, false, nat_lt, Ok, Option, Some, length}
use Rattle.chan_events.specs.declared.reply.Reply.TheVariants as reply
use Rattle.chan_model.specs.declared.names.Side.{Side}
use Rattle.chan_model.specs.declared.signal.OnPath.{OnPath}
use Rattle.chan_events.specs.Replies.{Reply}
use Rattle.chan_model.specs.UnitTable.{outcome_of, unit_after, unit_takes}
use Rattle.wires.specs.Queues.{Queues, first_of}
use Rattle.subchannel_model.specs.Sending.{carried_by, finds_full}
use Rattle.subchannel_model.specs.declared.state.Subchannel.{Subchannel}
use Rattle.functions.specs.contracts.subchannel.Subchannel.{the_view}
use Rattle.machine_model.specs.DownSteps.{down_shared, with_answer}
use Rattle.machine_model.specs.ReportSteps.{with_any_up}
use Rattle.machine_model.specs.Sharing.{is_asked_for, may_take, members_after, owing_after}
use Rattle.signal_step.specs.Giving.{shared_step}
use Rattle.signal_step.proofs.Turning.{down-fronted, down-done, downed}
use Rattle.chan_model.specs.Lent.{lent_down, plain_up}
use Rattle.chan_model.specs.Signals.{Up, map_taken}
use Rattle.signal_step.proofs.turns.down_sub.Goals as goal

pub returns-clause-gives : goal.returns-clause-gives
returns-clause-gives c =
    let members = c.args.sharing.now in
    let sub = c.args.sub.now in
    let u = c.args.unit.now in
    let k = sub.setup.«unit» in
    let path = c.in-Some.path in
    let signal = lent_down c.first_down-front.result in
    let outcome = map_taken plain_up c.take-outcome.result in
    let asks = is_asked_for u sub.setup.side signal in
    let step = unit_takes u sub.setup.side path signal (may_take members k asks) in
    let number = c.reached_unit-number.ensures in
    let side = c.reached_side-side.ensures in
    let first : first_of sub.wires.down path ≡ Some signal = ap (λ (x : Subchannel). first_of x.wires.down path) (sym c.sub.view_is) ∙ c.first_down-front.ensures in
    let room : false ≡ finds_full sub.wires.up (carried_by sub (outcome_of step).sent) = (c.in_ok-may_go_down.ensures.room signal (may_take members k asks) first).0 in
    let left : c.send_any_up.new.sub ≡ with_answer sub path outcome.sent =
    c.send_any_up.ensures
    ∙ (ap₂ (λ (w : Queues) (sent : Option (OnPath Up)). with_any_up (record (the_view c.sub.inside) { wires = w }) sent) c.drop_down.ensures c.lend_up-answer.ensures
    ∙ ap (λ (x : Subchannel). with_answer x path outcome.sent) c.sub.view_is) in
    subst (λ (n : ℕ). down_shared members sub n u ≡ downed signal outcome c.send_any_up.new.sub c.take-outcome.new.«unit» c.take-outcome.new.sharing) c.in-Some.ensures.1
    (down-fronted members sub path u (Some signal) (ap (λ (n : ℕ). nat_lt n (length sub.setup.paths)) c.in-Some.ensures.1 ∙ c.in-Some.ensures.0) first
    ∙ down-done members c.take-outcome.new.sharing k asks u c.take-outcome.new.«unit» sub c.send_any_up.new.sub path signal step outcome room
    (c.take-outcome.ensures.outcome ∙ ap₂ (λ (n : ℕ) (s : Side). outcome_of (shared_step members n u s path signal)) number side) left
    (c.take-outcome.ensures.state ∙ ap₂ (λ (n : ℕ) (s : Side). owing_after members n u (unit_after u (shared_step members n u s path signal))) number side)
    (c.take-outcome.ensures.members
    ∙ ap₂ (λ (n : ℕ) (s : Side). members_after members n (is_asked_for u s signal) u (unit_after u (shared_step members n u s path signal))) number side))
    ∙ ap (λ (r : Reply). Ok (record { turn = record { reply = r; sub = c.send_any_up.new.sub; «unit» = c.take-outcome.new.«unit» }; members = c.take-outcome.new.sharing })) (sym (c.meet_down.ensures.reply ∙ ap (λ (sent : Option (OnPath Up)). reply.Down signal outcome.taken sent) c.lend_up-answer.ensures))
