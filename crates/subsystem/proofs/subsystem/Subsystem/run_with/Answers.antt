use Rattle.std.proofs.Common.{◌∙◌, length, arith, length-append, ap, ◌∷◌, []}
use Rattle.subsystem.proofs.Answering.{has-more}
use Rattle.subsystem.proofs.subsystem.Subsystem.run_with.Goals as goal

pub loop-event-preserved : goal.loop-event-preserved
loop-event-preserved g c = record {
  answered =
      has-more g.P.PathChoice.picks c.args.self.now c.loop-event.self c.step_with-answer.new.self c.args.events.now c.loop-event.event-index c.event-item.result c.event-item.result c.loop-event.answers.items
      c.add.new.answers.items c.step_with-answer.result c.loop-event-test.true c.event-item.is c.loop-event.invariant.answered c.step_with-answer.ensures.answered.step c.step_with-answer.ensures.answered.history c.step_with-answer.ensures.answered.ruled
      c.step_with-answer.ensures.answered.refused c.step_with-answer.ensures.answered.refusal c.if-ends.ensures.other c.add.ensures.items;
  held = omega (arith, c.loop-event.invariant.held, c.step_with-answer.ensures.answered.room);
  room = omega (arith, c.loop-event.invariant.room, c.add.ensures.capacity, length-append c.loop-event.answers.items (c.step_with-answer.result ∷ []), ap length c.add.ensures.items);
  set_up = λ setup k. c.step_with-answer.ensures.answered.set_up setup (c.loop-event.invariant.set_up setup k);
  replays = c.recalls-in-loop-event.ensures.replays;
  cleared_once = c.recalls-in-loop-event.ensures.cleared_once;
  begun_once = c.recalls-in-loop-event.ensures.begun_once;
  agree = c.recalls-in-loop-event.ensures.agree;
  headline = c.recalls-in-loop-event.ensures.headline;
  unrefused = c.step_with-answer.ensures.unrefused c.if-ends.ensures.other ∙ c.loop-event.invariant.unrefused;
}
