use Rattle.script_runner.proofs.Failing.{none_fails}
use Rattle.script_runner.proofs.law.no_audit_fails.Goals as goal

pub returns : goal.returns
returns c = none_fails
