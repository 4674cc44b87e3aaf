use Rattle.std.proofs.Common.{◌≡◌}
use Rattle.std.specs.Prelude.{replicate}
use Rattle.machine_sight.specs.Waiting.{no_queues}
use Rattle.machine_sight.proofs.waiting.Waiting.none.Given as goal

-- the subchannels so far
abbrev pub invariant-loop-subchannel : goal.invariant-loop-subchannel
invariant-loop-subchannel g l = record {
  made : l.subchannels.items ≡ replicate l._subchannel no_queues;
  unrefused : g.S.Supply.refused l.supply ≡ g.S.Supply.refused l.fn.supply;
}
