use Rattle.std.proofs.Common.{◌≡◌, ℕ, ◌+◌, suc, None, take, sym, ◌∙◌, subst, arith}
use Rattle.subchannel_model.specs.Indices.{is_named, first_index}
use Rattle.lookup.proofs.FirstIndices.{first_index-at, first_index-more}
use Rattle.lookup.proofs.walk.index_in.Goals as goal

pub returns-then-is_named-clause-index : goal.returns-then-is_named-clause-index
returns-then-is_named-clause-index c =
    sym (first_index-at (is_named c.args.id) c.args.subs.now c.loop-index.index c.index-subs-index.result c.index-subs-index.result c.loop-index-test.true c.index-subs-index.is c.loop-index.invariant
    (sym c.is_named.ensures ∙ c.if-is_named.true))

pub loop-index-preserved : goal.loop-index-preserved
loop-index-preserved c =
    let one : suc c.loop-index.index ≡ c.loop-index.index + 1 = omega arith in
    subst (λ (n : ℕ). first_index (is_named c.args.id) (take n c.args.subs.now) ≡ None) one
    (first_index-more (is_named c.args.id) c.args.subs.now c.loop-index.index c.index-subs-index.result c.index-subs-index.result c.loop-index-test.true c.index-subs-index.is c.loop-index.invariant
    (sym c.is_named.ensures ∙ c.if-is_named.false))
