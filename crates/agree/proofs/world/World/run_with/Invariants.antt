use Rattle.std.proofs.Common.{◌≡◌, take}
use Rattle.agree.specs.Results.{worlds_after}
use Rattle.agree.specs.Promises.{AreSound}
use Rattle.agree.specs.Rooms.{Loses}
use Rattle.agree.proofs.world.World.run_with.Given as goal

abbrev pub invariant-loop-event : goal.invariant-loop-event
invariant-loop-event g l = record {
  done : l.self.world ≡ worlds_after l.fn.self.world (take l.event-index l.events);
  room : Loses l.event-index l.fn.self.room l.self.room;
  sound : AreSound l.self.world;
  unrefused : g.S.Supply.refused l.supply ≡ g.S.Supply.refused l.fn.supply;
}
