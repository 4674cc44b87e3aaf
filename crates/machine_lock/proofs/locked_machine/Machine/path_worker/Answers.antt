use Rattle.std.proofs.Common.{◌+◌, ℕ, arith, sym, ap, subst}
use Rattle.core_lock.specs.Turns as turn_spec
use Rattle.core_lock.specs.Turns.{WorksPath}
use Rattle.core_lock.proofs.Growing.{paths_more}
use Rattle.machine_lock.proofs.Chaining.{path_more}
use Rattle.machine_lock.proofs.locked_machine.Machine.path_worker.Goals as goal

pub loop-turn-preserved : goal.loop-turn-preserved
loop-turn-preserved g c =
    let i = c.loop-turn.invariant in
    let before = c.loop-turn.seat in
    let after = c.path_turn-entered.new.seat in
    let result = c.path_turn-entered.result in
    let n = turn_spec.count_in result in
    record {
      turns = omega (arith, c.path_turn-entered.ensures.turns, i.turns);
      most = omega (arith, c.count_of-added.ensures.most, i.most);
      works = subst (λ (k : ℕ). WorksPath c.args.chpid c.args.seat.now.value after.value (c.loop-turn.added + k)) (sym c.count_of-added.ensures.value) (paths_more c.args.chpid c.args.seat.now.value before.value after.value c.loop-turn.added n i.works c.path_turn-entered.ensures.works);
      each = path_more g.P.PathChoice.picks c.args.chpid c.loop-turn._turn c.args.seat.now before after c.loop-turn.added _ result i.each c.path_turn-entered.ensures.turn (ap (λ (k : ℕ). c.loop-turn.added + k) c.count_of-added.ensures.value);
    }
