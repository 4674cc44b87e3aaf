use Rattle.run_laws.proofs.Machine.Offering.{step-dedicated}
use Rattle.run_laws.proofs.engines.offers.Goals as goal

pub returns : goal.returns
returns c = record { dedicated = step-dedicated c.walks.ensures.each }
