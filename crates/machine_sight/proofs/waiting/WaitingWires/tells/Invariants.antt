use Rattle.std.proofs.Common.{◌≡◌, ◌<◌, ℕ}
use Rattle.machine_sight.specs.Shown.{told_on}
use Rattle.machine_sight.specs.Waiting.{waits_in}
use Rattle.step_records.specs.declared.record.Way.{Way}
use Rattle.machine_sight.proofs.waiting.WaitingWires.tells.Given as goal

-- the wires of the paths so far are told
abbrev pub invariant-loop-index : goal.invariant-loop-index
invariant-loop-index l = (way : Way) (path : ℕ) → path < l.index → waits_in l.self way path ≡ told_on l.wires way path
