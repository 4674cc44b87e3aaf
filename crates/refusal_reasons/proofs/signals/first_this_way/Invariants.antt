use Rattle.std.proofs.Common.{◌<◌, ℕ}
use Rattle.refusal_reasons.specs.Standing.{NoneWaits}
use Rattle.refusal_reasons.proofs.signals.first_this_way.Given as goal

-- nothing waits on the paths so far
abbrev pub invariant-loop-index : goal.invariant-loop-index
invariant-loop-index l = (path : ℕ) → path < l.index → NoneWaits l.wires l.way path
