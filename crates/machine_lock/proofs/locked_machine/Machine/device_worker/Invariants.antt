use Rattle.std.proofs.Common.{◌≡◌, ◌+◌, ◌≤◌, None}
use Rattle.core_lock.specs.Turns.{WorksUnit}
use Rattle.machine_lock.specs.Working.{AreUnitTurns}
use Rattle.machine_lock.proofs.locked_machine.Machine.device_worker.Given as goal

abbrev pub invariant-loop-turn : goal.invariant-loop-turn
invariant-loop-turn g l = record {
  turns : l.seat.value.turns ≡ l.fn.seat.value.turns + l._turn;
  owes : l.seat.value.owed ≡ None;
  most : l.added ≤ l._turn;
  works : WorksUnit l.roam l.«unit» l.fn.seat.value l.seat.value l.added;
  each : AreUnitTurns g.P.PathChoice.picks (g.G.Gate.passes l.gate) g.D.Gated.answers l.roam l.«unit» l._turn l.fn.seat l.fn.device l.seat l.device l.added;
}
