use Rattle.run_laws.proofs.Signals.PathReportRuns.{run-answers-by-paths}
use Rattle.run_laws.proofs.codes.path_reports.Goals as goal

pub returns : goal.returns
returns c = record { paths = run-answers-by-paths }
