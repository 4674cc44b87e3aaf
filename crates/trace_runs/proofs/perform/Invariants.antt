use Rattle.std.proofs.Common.{◌≡◌, take}
use Rattle.trace_runs.specs.Tracing.{HasTraced, IsSeen}
use Rattle.trace_runs.proofs.perform.Given as goal

-- the lines so far
abbrev pub invariant-loop-index : goal.invariant-loop-index
invariant-loop-index g l = record {
  traced : HasTraced l.fn.tracer.parties l.fn.tracer.machine (take l.index l.lines) l.records.items l.tracer.machine;
  parties : l.tracer.parties ≡ l.fn.tracer.parties;
  seen : IsSeen l.tracer;
}
