use Rattle.std.proofs.Common.{rules, ◌-◌, length, drop, arith}
use Rattle.script.proofs.Parting.{ended, parted, next, last}
use Rattle.script.proofs.pieces.short_pieces_to.Goals as goal

pub loop-index-preserved : goal.loop-index-preserved
loop-index-preserved g c =
    let bytes = c.args.bytes.now in
    let old = c.loop-index.invariant in
    record {
      ordered = omega arith;
      parts = parted (λ p. p.now) c.loop-index.found.items _ _ _ (c.loop-index.index - c.loop-index.start) (drop c.loop-index.start bytes) _ _ c.in_ok-add.ensures.added (search rules) old.parts
          (next c.args.separator bytes c.loop-index.start c.loop-index.index old.ordered (search rules) old.before (search rules));
      before = λ k from to. absurd (omega arith);
      unrefused = search rules;
    }

pub returns-clause-parts : goal.returns-clause-parts
returns-clause-parts g c =
    let bytes = c.args.bytes.now in
    let old = c.loop-index.invariant in
    ended (λ p. p.now) c.loop-index.found.items _ _ _ (length bytes - c.loop-index.start) (drop c.loop-index.start bytes) _ c.in_ok-add-2.ensures.added (search rules) old.parts
    (last c.args.separator bytes c.loop-index.start (omega (arith, old.ordered)) (λ k from to. old.before k from (omega arith)))
