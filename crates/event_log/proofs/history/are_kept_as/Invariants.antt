use Rattle.std.proofs.Common.{◌≡◌, take}
use Rattle.event_log.proofs.history.are_kept_as.Given as goal

abbrev pub invariant-loop-index : goal.invariant-loop-index
invariant-loop-index l = take l.index l.entries ≡ take l.index l.others
