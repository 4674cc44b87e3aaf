use Rattle.core_lock.specs.Turns as turn_spec
use Rattle.machine_lock.proofs.Calling.{works_called}
use Rattle.machine_lock.proofs.locked_machine.Machine.whole_turn.Goals as goal

pub returns-clause-turn : goal.returns-clause-turn
returns-clause-turn g c = record {
  stepped = c.unit_turn-entered.new.seat.value;
  turn = c.unit_turn-entered.ensures.turn;
  owed = c.call_owed.ensures.makes;
}

pub returns-clause-works : goal.returns-clause-works
returns-clause-works g c =
    works_called c.args.worker.roam c.args.worker.«unit» c.args.seat.now.value c.unit_turn-entered.new.seat.value c.call_owed.new.seat.value (turn_spec.count_in c.unit_turn-entered.result) c.unit_turn-entered.ensures.works c.unit_turn-entered.ensures.owes c.call_owed.ensures.called
