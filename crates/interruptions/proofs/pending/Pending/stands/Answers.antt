use Rattle.std.proofs.Common.{◌∙◌, sym, ap, not, ℕ, ◌==◌}
use Rattle.interruptions.specs.Requests.{WaitingRequests, stands}
use Rattle.interruptions.proofs.Values.{stands-next, stands-nowhere}
use Rattle.interruptions.proofs.pending.Pending.stands.Goals as goal

pub returns-then-not-has_index : goal.returns-then-not-has_index
returns-then-not-has_index c =
    sym (stands-nowhere c.self.invariant c.args.set c.args.number (sym c.has_index.ensures ∙ c.if-not-has_index.true))
    ∙ ap (λ (w : WaitingRequests). stands w.requests c.args.set c.args.number) c.self.view_is

pub returns : goal.returns
returns c =
    let index = c.index_of-index.result in
    ap (λ (n : ℕ). not (n == index)) c.next.ensures.next
    ∙ stands-next c.self.invariant c.args.set c.args.number index (sym c.has_index.ensures ∙ c.if-not-has_index.false) c.index_of-index.ensures
    ∙ ap (λ (w : WaitingRequests). stands w.requests c.args.set c.args.number) c.self.view_is
