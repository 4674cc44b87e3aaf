use Rattle.agree.proofs.AgreeRuns.{both_agree}
use Rattle.agree.proofs.Lasting.{open-well}
use Rattle.agree.proofs.both_agree.Goals as goal

pub returns : goal.returns
returns c = record {
  agree = λ events. both_agree c.agreement.ensures.keeps c.resets.ensures c.agreement.ensures.means c.rising.ensures (open-well c.agreement.ensures.opens) events;
}
