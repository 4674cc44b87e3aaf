use Rattle.run_laws.proofs.Signals.HolderRuns.{run-one-holder}
use Rattle.run_laws.proofs.agreement.one_holder.Goals as goal

pub returns : goal.returns
returns c = record { one = run-one-holder (record { set_up = c.setups.ensures.set_up; above = c.reset_numbers.ensures.above }) }
