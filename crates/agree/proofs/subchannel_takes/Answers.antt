use Rattle.agree.proofs.MachineTakes.{machine-takes}
use Rattle.agree.proofs.subchannel_takes.Goals as goal

pub returns : goal.returns
returns c = record { taken = machine-takes }
