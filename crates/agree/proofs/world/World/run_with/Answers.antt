use Rattle.std.proofs.Common.{◌∙◌}
use Rattle.agree.proofs.AgreeRuns.{goes-on}
use Rattle.agree.proofs.Lasting.{worlds-step}
use Rattle.agree.proofs.Wanting.{taken-more}
use Rattle.agree.proofs.world.World.run_with.Goals as goal

pub loop-event-preserved : goal.loop-event-preserved
loop-event-preserved g c = record {
  done =
      worlds-step c.args.self.now.world c.loop-event.self.world c.pass.new.self.world c.args.events.now c.loop-event.event-index c.event-item.result
      c.event-item.result c.loop-event-test.true c.event-item.is c.loop-event.invariant.done c.in_ok-pass.ensures.done;
  room =
      taken-more c.loop-event.event-index c.args.self.now.room c.loop-event.self.room c.pass.new.self.room c.pass.result
      c.loop-event.invariant.room c.pass.ensures.room;
  sound = c.is_sound-in-loop-event.ensures.now;
  unrefused = c.in_ok-pass.ensures.unrefused ∙ c.loop-event.invariant.unrefused;
}

pub returns-in_err-pass-clause-history : goal.returns-in_err-pass-clause-history
returns-in_err-pass-clause-history g c =
    goes-on c.by_its_path.ensures.paths c.one_holder.ensures.one c.one_holder.ensures.once c.both_agree.ensures.agree c.args.self.now.world c.args.events.now

pub returns-clause-history : goal.returns-clause-history
returns-clause-history g c =
    goes-on c.by_its_path.ensures.paths c.one_holder.ensures.one c.one_holder.ensures.once c.both_agree.ensures.agree c.args.self.now.world c.args.events.now
