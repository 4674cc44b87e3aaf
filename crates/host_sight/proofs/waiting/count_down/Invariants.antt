use Rattle.std.proofs.Common.{◌≤◌, length}
use Rattle.wires.specs.Queues.{queue}
use Rattle.host_sight.proofs.waiting.count_down.Given as goal

-- so many wait at least
abbrev pub invariant-loop-index : goal.invariant-loop-index
invariant-loop-index l = l.index ≤ length (queue l.wires.down l.path)
