use Rattle.std.proofs.Common.{sym}
use Rattle.refusal_reasons.specs.Naming.{IsNamed}
use Rattle.refusal_reasons.proofs.storage.storage_refusal.Goals as goal

pub returns-in-Some-clause-named : goal.returns-in-Some-clause-named
unfolding IsNamed
returns-in-Some-clause-named c state storage parties bytes = (sym (c.in-Some.ensures bytes), c.reason_of.ensures.boundary bytes)
