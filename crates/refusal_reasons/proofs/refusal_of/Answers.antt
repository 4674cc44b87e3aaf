use Rattle.std.proofs.Common.{⊎_elim}
use Rattle.refusal_reasons.specs.Naming.{IsNamed}
use Rattle.refusal_reasons.proofs.refusal_of.Goals as goal

pub returns-in-NoMemory-clause-named : goal.returns-in-NoMemory-clause-named
unfolding IsNamed
returns-in-NoMemory-clause-named g c bytes = tt

pub returns-in-WireFull-clause-named : goal.returns-in-WireFull-clause-named
unfolding IsNamed
returns-in-WireFull-clause-named g c bytes = tt

pub returns-in-ConfigBad-clause-named : goal.returns-in-ConfigBad-clause-named
unfolding IsNamed
returns-in-ConfigBad-clause-named g c bytes = ⊎_elim (λ h. rw h.1 tt) (λ h. rw h.2 tt) c.in-ConfigBad.is
