use Rattle.std.proofs.Common.{subst}
use Rattle.core_lock.specs.Seats.{GuardedCore, HeldSeat}
use Rattle.core_lock.specs.Turns.{TakesUnitTurn, turned_seat}
use Rattle.core_lock.proofs.Growing.{unit_works, unit_owed, unit_turns}
use Rattle.core_lock.proofs.guarded.Guarded.unit_step.Goals as goal

pub returns-clause-turn : goal.returns-clause-turn
returns-clause-turn g c =
    let core = c.count_turn.ensures.core in
    let result = c.unit_turn.result in
    let new = c.unit_turn.new.self.value in
    let after = c.unit_turn.new.seat.value in
    subst (λ (s : HeldSeat). TakesUnitTurn g.P.PathChoice.picks c.args.self.now s s.value.waiting c.args.«unit» c.args.roam result new after) c.count_turn.ensures.seat
    (subst (λ (l : GuardedCore). TakesUnitTurn g.P.PathChoice.picks l c.count_turn.new.seat c.count_turn.new.seat.value.waiting c.args.«unit» c.args.roam result new after) core c.unit_turn.ensures)

pub returns-clause-works : goal.returns-clause-works
returns-clause-works g c =
    unit_works g.P.PathChoice.picks c.args.self.now c.args.seat.now c.args.«unit» c.args.roam c.unit_turn.result c.unit_turn.new.self.value c.unit_turn.new.seat.value (c.args.self.now.value.history, c.stands.ensures.0, c.stands.ensures.1) (returns-clause-turn g c)

pub returns-clause-owes : goal.returns-clause-owes
returns-clause-owes g c =
    unit_owed g.P.PathChoice.picks c.args.self.now c.args.seat.now c.args.«unit» c.args.roam c.unit_turn.result c.unit_turn.new.self.value c.unit_turn.new.seat.value (c.args.self.now.value.history, c.stands.ensures.0, c.stands.ensures.1) c.requires (returns-clause-turn g c)

pub returns-clause-turns : goal.returns-clause-turns
returns-clause-turns g c =
    unit_turns g.P.PathChoice.picks c.args.self.now (turned_seat c.args.seat.now) c.args.seat.now.value.waiting c.args.«unit» c.args.roam c.unit_turn.result c.unit_turn.new.self.value c.unit_turn.new.seat.value (returns-clause-turn g c)

pub returns-clause-told : goal.returns-clause-told
returns-clause-told g c = record {
  core = c.args.self.now;
  left = c.unit_turn.new.self.value;
  of_machine = c.stands.ensures;
  turn = returns-clause-turn g c;
}
