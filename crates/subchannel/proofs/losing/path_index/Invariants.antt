use Rattle.std.proofs.Common.{◌≡◌, ℕ, ◌<◌, get_or}
use Rattle.subchannel.proofs.losing.path_index.Given as goal

-- none of the paths so far is the one
abbrev pub invariant-loop-index : goal.invariant-loop-index
invariant-loop-index l = (k : ℕ) → k < l.index → get_or l.paths k 0 ≡ l.chpid → ⊥
