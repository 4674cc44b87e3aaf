use Rattle.run_laws.proofs.Signals.LinkRuns.{run-keeps-links}
use Rattle.run_laws.proofs.agreement.links.Goals as goal

pub returns : goal.returns
returns c = record { links = run-keeps-links c.walks.ensures.each c.engines.ensures.one }
