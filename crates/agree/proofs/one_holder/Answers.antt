use Rattle.agree.proofs.Lasting.{open-well}
use Rattle.agree.proofs.HolderRuns.{one_holder, begun_once}
use Rattle.agree.proofs.one_holder.Goals as goal

pub returns : goal.returns
returns c = record {
  one = λ events. one_holder c.agreement.ensures.keeps c.resets.ensures c.rising.ensures (open-well c.agreement.ensures.opens) events;
  once = λ events. begun_once _ (one_holder c.agreement.ensures.keeps c.resets.ensures c.rising.ensures (open-well c.agreement.ensures.opens) events);
}
