use Rattle.std.proofs.Common.{◌≡◌, take}
use Rattle.event_log.proofs.history.are_same.Given as goal

abbrev pub invariant-loop-number : goal.invariant-loop-number
invariant-loop-number l = take l.number l.one ≡ take l.number l.other
