use Rattle.std.proofs.Common.{◌≡◌, length}
use Rattle.interruptions.proofs.pending.Pending.drop_all.Given as goal

-- there is room for the same numbers
abbrev pub invariant-loop-request : goal.invariant-loop-request
invariant-loop-request l = l.self.numbers ≡ l.fn.self.numbers

abbrev pub decreases-loop-request : goal.decreases-loop-request
decreases-loop-request l = length l.self.requests
