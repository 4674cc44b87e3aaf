use Rattle.std.proofs.Common.{rules}
use Rattle.trace_runs.proofs.Growing.{is_traced}
use Rattle.trace_runs.proofs.trace_script.Goals as goal

pub returns-clause-traced : goal.returns-clause-traced
returns-clause-traced g c =
    is_traced _ _ c.in_ok-script.script _ _ (search rules) c.into_parts-config.ensures.config c.into_parts-config.ensures.lines c.in_ok-done.ensures.performed
