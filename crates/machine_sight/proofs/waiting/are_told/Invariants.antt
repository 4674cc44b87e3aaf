use Rattle.std.proofs.Common.{◌≡◌, take}
use Rattle.machine_sight.specs.Shown.{told_on}
use Rattle.machine_sight.proofs.waiting.are_told.Given as goal

-- the signals so far are the same
abbrev pub invariant-loop-index : goal.invariant-loop-index
invariant-loop-index l = take l.index l.signals ≡ take l.index (told_on l.wires l.way l.path)
