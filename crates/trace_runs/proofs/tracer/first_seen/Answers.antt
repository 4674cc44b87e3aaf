use Rattle.std.proofs.Common.{rules}
use Rattle.trace_runs.proofs.tracer.first_seen.Goals as goal

pub returns-then-tells-clause-told : goal.returns-then-tells-clause-told
returns-then-tells-clause-told g c = c.tells.ensures.told (search rules)
