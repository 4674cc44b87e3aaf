use Rattle.run_laws.proofs.Signals.EngineRuns.{run-one-engine}
use Rattle.run_laws.proofs.paths.one_engine.Goals as goal

pub returns : goal.returns
returns c = record { one = run-one-engine c.walks.ensures.each c.engines.ensures.one }
