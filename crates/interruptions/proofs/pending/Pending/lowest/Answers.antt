use Rattle.std.proofs.Common.{◌∙◌, ap, arith}
use Rattle.std.specs.Int.RustNames.{bit_and}
use Rattle.std.specs.List.{filter}
use Rattle.std.proofs.lemmas.Nat.{and_le_r}
use lib.Count.{count_leading_zeros}
use Rattle.interruptions.specs.Requests.{WaitingRequests, is_enabled, lowest}
use Rattle.interruptions.proofs.Answering.{lowest-is}
use Rattle.interruptions.proofs.Bytes.{leftmost}
use Rattle.interruptions.proofs.Values.{waited-is}
use Rattle.interruptions.proofs.pending.Pending.lowest.Goals as goal

pub returns : goal.returns
returns c =
    let mask = c.args.mask in
    let ready = bit_and c.self.inside.summary mask in
    lowest-is mask _ c.self.inside.summary (count_leading_zeros 8 ready) (leftmost ready (omega (arith, and_le_r c.self.inside.summary mask, c.ranges.mask.fits)))
    (λ k small. c.self.invariant.wait.bits k small ∙ waited-is _ k _)
    ∙ ap (λ (w : WaitingRequests). lowest (filter (is_enabled mask) w.requests)) c.self.view_is
