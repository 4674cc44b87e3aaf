use Rattle.std.proofs.Common.{◌≡◌, ◌+◌, ◌≤◌, length, take, vec_len, vec_capacity}
use Rattle.machine_model.specs.Answering.{HasAnswered}
use Rattle.machine_model.specs.Steps.{HasRun}
use Rattle.run_laws.specs.Agreeing.{AllAgree}
use Rattle.subsystem.specs.Headline.{HasHeld}
use Rattle.run_laws.specs.Beginnings.{IsBegunOnce}
use Rattle.run_laws.specs.StateClaims.{IsClearedOnce}
use Rattle.subsystem.specs.Keeping.{StaysSetUp}
use Rattle.subsystem.proofs.subsystem.Subsystem.run_with.Given as goal

abbrev pub invariant-loop-event : goal.invariant-loop-event
invariant-loop-event g l = record {
  answered : HasAnswered g.P.PathChoice.picks l.fn.self (take l.event-index l.events) l.answers.items l.self;
  held : l.fn.self.room ≤ l.self.room + l.event-index;
  room : vec_len l.answers + length l.events ≤ vec_capacity l.answers + l.event-index;
  set_up : StaysSetUp l.fn.self.state l.self.state;
  replays : HasRun l.self.history l.self.state;
  cleared_once : IsClearedOnce l.self.state.sets l.self.history;
  begun_once : IsBegunOnce l.self.state.sets l.self.history;
  agree : AllAgree l.self.state;
  headline : HasHeld l.self.history l.self.state;
  unrefused : g.S.Supply.refused l.supply ≡ g.S.Supply.refused l.fn.supply;
}
