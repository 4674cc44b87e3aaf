use Rattle.run_laws.proofs.Signals.DedicatedRuns.{run-offers-on-dedicated}
use Rattle.run_laws.proofs.beginnings.dedicated_offers.Goals as goal

pub returns : goal.returns
returns c = record { dedicated = run-offers-on-dedicated c.walks.ensures.each c.offers.ensures.dedicated }
