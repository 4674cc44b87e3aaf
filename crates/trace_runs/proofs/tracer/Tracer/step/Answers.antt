use Rattle.std.proofs.Common.{rules, refl}
use Rattle.trace_runs.proofs.Stepping.{from_value, stepped_quiet, stepped_refused, stepped_told}
use Rattle.trace_runs.proofs.tracer.Tracer.step.Goals as goal

pub returns-in_ok-add_looked-in-Ok-Looked-clause-stepped : goal.returns-in_ok-add_looked-in-Ok-Looked-clause-stepped
returns-in_ok-add_looked-in-Ok-Looked-clause-stepped g c =
    from_value _ _ _ _ _ _ _ c.self.view_is
    (stepped_quiet _ _ c.act.new.self _ _ _ c.in-Ok-Looked.found c.instructed-named.result _ _ _ c.act.ensures.performs
    (search rules) refl (c.instructed-named.ensures c.args.bytes.now) c.in_ok-add_beginning.ensures.added
    c.in_ok-add_looked-in-Ok-Looked.ensures.added)

pub returns-in_ok-add_reason-in-Err-clause-stepped : goal.returns-in_ok-add_reason-in-Err-clause-stepped
returns-in_ok-add_reason-in-Err-clause-stepped g c =
    from_value _ _ _ _ _ _ _ c.self.view_is
    (stepped_refused _ _ c.act.new.self _ _ _ c.in-Err.fault c.instructed-named.result _ _ _ _ c.act.ensures.performs
    (search rules) refl (c.instructed-named.ensures c.args.bytes.now) c.in_ok-add_beginning.ensures.added
    c.in_ok-add_refusal-in-Err.ensures.added (c.in_ok-add_reason-in-Err.ensures.added c.args.bytes.now))

pub returns-in_ok-tell_action-in-Ok-Replied-clause-stepped : goal.returns-in_ok-tell_action-in-Ok-Replied-clause-stepped
returns-in_ok-tell_action-in-Ok-Replied-clause-stepped g c =
    from_value _ _ _ _ _ _ _ c.self.view_is
    (stepped_told _ _ _ c.act.new.self _ _ _ c.instructed-named.result _ _ _ c.act.ensures.performs
    (search rules) refl (c.instructed-named.ensures c.args.bytes.now) c.in_ok-add_beginning.ensures.added
    c.in_ok-tell_action-in-Ok-Replied.ensures.told)
