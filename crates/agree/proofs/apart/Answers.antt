use Rattle.agree.proofs.Aparting.{after-leaves}
use Rattle.agree.proofs.apart.Goals as goal

pub returns : goal.returns
returns c = record { apart = λ w e. after-leaves w e }
