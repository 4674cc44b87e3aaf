use Rattle.run_laws.proofs.Shown.LogicalOffers.{run-logical}
use Rattle.run_laws.proofs.beginnings.logical_offers.Goals as goal

pub returns : goal.returns
returns c = record { logical = run-logical (record { walks = c.walks.ensures.each; sets = c.steps.ensures.sets; setups = c.setups.ensures.stay }) }
