use Rattle.std.proofs.Common.{◌≡◌, ap, sym, ◌∙◌, ℕ, Option, None, Some, IsSome, IfSome, arith}
use Rattle.subchannel.proofs.PathIndices.{path_index-at, path_index-none}
use Rattle.subchannel.proofs.losing.path_index.Goals as goal

-- the path of a known index
of_index : (o : Option ℕ) (i : ℕ) → IsSome o → IfSome o (λ p. p ≡ i) → o ≡ Some i
of_index None i there same = absurd (cc there)
of_index (Some p) i there same = ap (λ (n : ℕ). Some n) same

pub returns-then-path-chpid : goal.returns-then-path-chpid
returns-then-path-chpid c =
    of_index c.new.result c.loop-index.index (c.new.ensures.found.1 (omega arith)) c.new.ensures.same
    ∙ sym (path_index-at c.args.chpid c.args.paths.now c.loop-index.index c.loop-index-test.true c.loop-index.invariant c.if-path-chpid.true)

pub returns : goal.returns
returns c = sym (path_index-none c.args.chpid c.args.paths.now (λ k h. c.loop-index.invariant k (omega arith)))
