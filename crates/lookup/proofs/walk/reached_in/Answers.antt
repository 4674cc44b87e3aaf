use Rattle.std.proofs.Common.{◌≡◌, ℕ, ◌+◌, suc, None, take, sym, ◌∙◌, subst, arith}
use Rattle.subchannel_model.specs.Indices.{first_index, reaches}
use Rattle.lookup.proofs.FirstIndices.{first_index-at, first_index-more}
use Rattle.lookup.proofs.walk.reached_in.Goals as goal

pub returns-then-reaches-clause-index : goal.returns-then-reaches-clause-index
returns-then-reaches-clause-index c =
    sym (first_index-at (reaches c.args.«unit» c.args.side) c.args.subs.now c.loop-index.index c.index-subs-index.result c.index-subs-index.result c.loop-index-test.true c.index-subs-index.is c.loop-index.invariant
    (sym c.reaches.ensures ∙ c.if-reaches.true))

pub loop-index-preserved : goal.loop-index-preserved
loop-index-preserved c =
    let one : suc c.loop-index.index ≡ c.loop-index.index + 1 = omega arith in
    subst (λ (n : ℕ). first_index (reaches c.args.«unit» c.args.side) (take n c.args.subs.now) ≡ None) one
    (first_index-more (reaches c.args.«unit» c.args.side) c.args.subs.now c.loop-index.index c.index-subs-index.result c.index-subs-index.result c.loop-index-test.true c.index-subs-index.is c.loop-index.invariant
    (sym c.reaches.ensures ∙ c.if-reaches.false))
