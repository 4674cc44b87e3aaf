use Rattle.run_laws.proofs.Signals.OwnRuns.{run-begins-its-own}
use Rattle.run_laws.proofs.beginnings.begins_its_own.Goals as goal

pub returns : goal.returns
returns c = record { own = run-begins-its-own c.walks.ensures.each }
