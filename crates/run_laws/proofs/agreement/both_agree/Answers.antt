use Rattle.run_laws.proofs.Signals.Agrees.{run-both-agree}
use Rattle.run_laws.proofs.agreement.both_agree.Goals as goal

pub returns : goal.returns
returns c = record {
  agree = run-both-agree c.walks.ensures.each (record { set_up = c.setups.ensures.set_up; above = c.reset_numbers.ensures.above }) c.agreements.ensures.agree;
}
