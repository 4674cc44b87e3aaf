use Rattle.std.proofs.Common.{◌≡◌, ◌+◌, ◌≤◌}
use Rattle.core_lock.specs.Turns.{WorksPath}
use Rattle.machine_lock.specs.Working.{ArePathTurns}
use Rattle.machine_lock.proofs.locked_machine.Machine.path_worker.Given as goal

abbrev pub invariant-loop-turn : goal.invariant-loop-turn
invariant-loop-turn g l = record {
  turns : l.seat.value.turns ≡ l.fn.seat.value.turns + l._turn;
  most : l.added ≤ l._turn;
  works : WorksPath l.chpid l.fn.seat.value l.seat.value l.added;
  each : ArePathTurns g.P.PathChoice.picks l.chpid l._turn l.fn.seat l.seat l.added;
}
