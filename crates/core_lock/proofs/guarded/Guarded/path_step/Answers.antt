use Rattle.std.proofs.Common.{Option, ap, ◌∙◌, subst}
use Rattle.chan_events.specs.Events.{Event}
use Rattle.core_lock.specs.Seats.{GuardedCore, HeldSeat}
use Rattle.core_lock.specs.Turns.{TakesPathTurn, turn_of_path, turned_seat}
use Rattle.core_lock.proofs.Growing.{path_turns, path_works}
use Rattle.core_lock.proofs.guarded.Guarded.path_step.Goals as goal

pub returns-clause-turn : goal.returns-clause-turn
returns-clause-turn g c =
    let core = c.count_turn.ensures.core in
    let turn = c.path_event-turn.ensures ∙ ap (λ (l : GuardedCore). turn_of_path l.value.state c.args.chpid) core in
    let result = c.take_path_turn.result in
    let new = c.take_path_turn.new.self.value in
    let after = c.take_path_turn.new.seat.value in
    subst (λ (o : Option Event). TakesPathTurn g.P.PathChoice.picks c.args.self.now (turned_seat c.args.seat.now) o result new after) turn
    (subst (λ (s : HeldSeat). TakesPathTurn g.P.PathChoice.picks c.args.self.now s c.path_event-turn.result result new after) c.count_turn.ensures.seat
    (subst (λ (l : GuardedCore). TakesPathTurn g.P.PathChoice.picks l c.count_turn.new.seat c.path_event-turn.result result new after) core c.take_path_turn.ensures))

pub returns-clause-works : goal.returns-clause-works
returns-clause-works g c =
    path_works g.P.PathChoice.picks c.args.self.now c.args.seat.now c.args.chpid c.take_path_turn.result c.take_path_turn.new.self.value c.take_path_turn.new.seat.value (c.args.self.now.value.history, c.stands.ensures.0, c.stands.ensures.1) (returns-clause-turn g c)

pub returns-clause-turns : goal.returns-clause-turns
returns-clause-turns g c =
    path_turns g.P.PathChoice.picks c.args.self.now (turned_seat c.args.seat.now) (turn_of_path c.args.self.now.value.state c.args.chpid) c.take_path_turn.result c.take_path_turn.new.self.value c.take_path_turn.new.seat.value (returns-clause-turn g c)

pub returns-clause-told : goal.returns-clause-told
returns-clause-told g c = record {
  core = c.args.self.now;
  left = c.take_path_turn.new.self.value;
  of_machine = c.stands.ensures;
  turn = returns-clause-turn g c;
}
