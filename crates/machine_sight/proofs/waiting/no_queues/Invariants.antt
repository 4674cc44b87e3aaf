use Rattle.std.proofs.Common.{◌≡◌, []}
use Rattle.std.specs.Prelude.{replicate}
use Rattle.machine_sight.proofs.waiting.no_queues.Given as goal

-- the paths so far have no signals
abbrev pub invariant-loop-path : goal.invariant-loop-path
invariant-loop-path g l = record {
  made : l.queues.items ≡ replicate l._path [];
  unrefused : g.S.Supply.refused l.supply ≡ g.S.Supply.refused l.fn.supply;
}
