use Rattle.std.proofs.Common.{◌+◌, ℕ, arith, sym, ap, subst}
use Rattle.core_lock.specs.Turns as turn_spec
use Rattle.core_lock.specs.Turns.{WorksUnit}
use Rattle.core_lock.proofs.Growing.{works_more}
use Rattle.machine_lock.proofs.Chaining.{unit_more}
use Rattle.machine_lock.proofs.locked_machine.Machine.device_worker.Goals as goal

pub loop-turn-preserved : goal.loop-turn-preserved
loop-turn-preserved g c =
    let i = c.loop-turn.invariant in
    let before = c.loop-turn.seat in
    let t = c.whole_turn-entered in
    let after = t.new.seat in
    let n = turn_spec.count_in t.result in
    record {
      turns = omega (arith, t.ensures.turns, i.turns);
      owes = t.ensures.owes;
      most = omega (arith, c.count_of-added.ensures.most, i.most);
      works = subst (λ (k : ℕ). WorksUnit c.args.roam c.args.«unit» c.args.seat.now.value after.value (c.loop-turn.added + k)) (sym c.count_of-added.ensures.value) (works_more c.args.roam c.args.«unit» c.args.seat.now.value before.value after.value c.loop-turn.added n i.works t.ensures.works);
      each = unit_more g.P.PathChoice.picks (g.G.Gate.passes c.args.gate.now) g.D.Gated.answers c.args.roam c.args.«unit» c.loop-turn._turn c.args.seat.now before after c.args.device.now c.loop-turn.device t.new.device c.loop-turn.added _ t.result i.each t.ensures.turn (ap (λ (k : ℕ). c.loop-turn.added + k) c.count_of-added.ensures.value);
    }
