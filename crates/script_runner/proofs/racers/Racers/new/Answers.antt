use Rattle.std.proofs.Common.{◌+◌, ◌∷◌, [], ℕ, length-append, ap, ◌∙◌, length}
use Rattle.script_runner.proofs.Gathering.{ready_next, seated_more}
use Rattle.script_runner.proofs.racers.Racers.new.Goals as goal

pub loop-number-preserved : goal.loop-number-preserved
loop-number-preserved g c =
    let l = c.loop-number in
    let i = l.invariant in
    let r = c.in_ok-racer in
    let p = c.in_ok-push.ensures in
    record {
      count = ap length p.pushed ∙ length-append l.cpus.items (r.racer ∷ []) ∙ ap (λ (n : ℕ). n + 1) i.count;
      ready = ready_next l.cpus.items c.push.new.list.items r.racer l.number i.ready i.count r.ensures.cpu r.ensures.log p.pushed;
      core = seated_more c.args.core.now.value l.core.value c.seated.new.core.value l.number i.core r.ensures.core;
      unrefused = p.unrefused ∙ r.ensures.unrefused ∙ i.unrefused;
    }
