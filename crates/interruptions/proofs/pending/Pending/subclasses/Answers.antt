use Rattle.std.proofs.Common.{◌∙◌, ap}
use Rattle.interruptions.specs.Requests.{WaitingRequests, has_request}
use Rattle.interruptions.proofs.Values.{waited-is}
use Rattle.interruptions.proofs.pending.Pending.subclasses.Goals as goal

pub returns : goal.returns
returns c k small = c.self.invariant.wait.bits k small ∙ waited-is _ k _ ∙ ap (λ (w : WaitingRequests). has_request w k) c.self.view_is
