use Rattle.std.proofs.Common.{rules}
use Rattle.trace_runs.proofs.perform_named.Goals as goal

pub returns-then-audited-clause-performed : goal.returns-then-audited-clause-performed
returns-then-audited-clause-performed g c = record {
  opening = c.in_ok-tracer.tracer.machine;
  is_opening = c.in_ok-tracer.ensures.opening;
  last = c.perform.new.tracer.machine;
  parties = c.in_ok-tracer.tracer.parties;
  is_among = c.in_ok-tracer.ensures.parties;
  traced = c.in_default.ensures.traced;
  audited = search rules;
}
