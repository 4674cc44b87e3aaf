use Rattle.script_runner.proofs.Failing.{fails_only_by_race}
use Rattle.script_runner.proofs.law.audit_fails_only_by_a_race.Goals as goal

pub returns : goal.returns
returns c = fails_only_by_race
