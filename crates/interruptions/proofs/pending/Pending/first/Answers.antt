use Rattle.std.proofs.Common.{◌∙◌, ap}
use Rattle.interruptions.specs.Requests.{WaitingRequests}
use Rattle.interruptions.specs.Indices.{first_of}
use Rattle.interruptions.proofs.Values.{queue-first}
use Rattle.interruptions.proofs.pending.Pending.first.Goals as goal

pub returns : goal.returns
returns c =
    queue-first c.self.invariant c.as_slice.result.now c.from.result c.args.subclass c.front.result c.requires c.as_slice.ensures.value c.from.ensures c.front.ensures
    ∙ ap (λ (w : WaitingRequests). first_of w.requests c.args.subclass) c.self.view_is
