use Rattle.agree.proofs.Lasting.{open-well}
use Rattle.agree.proofs.PathRuns.{by_its_path}
use Rattle.agree.proofs.by_its_path.Goals as goal

pub returns : goal.returns
returns c = record { paths = λ events. by_its_path c.agreement.ensures.keeps c.resets.ensures c.rising.ensures (open-well c.agreement.ensures.opens) events }
