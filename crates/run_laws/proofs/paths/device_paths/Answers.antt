use Rattle.run_laws.proofs.Signals.WayRuns.{run-one-way}
use Rattle.run_laws.proofs.paths.device_paths.Goals as goal

pub returns : goal.returns
returns c = record { ways = run-one-way (record { set_up = c.setups.ensures.set_up; above = c.reset_numbers.ensures.above }) }
