use Rattle.std.proofs.Common.{◌<◌, length, ◌∙◌, sym, ap, Bool, None, Some, eq-eqb, arith}
use Rattle.std.specs.Prelude.{if◌then◌else◌}
use Rattle.std.proofs.lemmas.List.{get_or_read}
use Rattle.interruptions.specs.Circles.{next_of}
use Rattle.interruptions.proofs.Members.{differ}
use Rattle.interruptions.specs.Indices.{no_request, request_at}
use Rattle.interruptions.proofs.Values.{first-request}
use Rattle.interruptions.proofs.pending.front.Goals as goal

pub returns-then-index-circle : goal.returns-then-index-circle
returns-then-index-circle c = λ waiting h none.
    let requests = c.args.requests.now in
    let next = next_of c.args.links.now c.args.circle in
    sym (first-request requests c.args.links.now c.args.circle waiting h none
    ∙ ap (λ (b : Bool). if b then None else Some (request_at requests next)) (eq-eqb next c.args.circle (sym c.next-index.ensures.next ∙ c.if-index-circle.true)))

pub returns : goal.returns
returns c = λ waiting h none.
    let requests = c.args.requests.now in
    let next = next_of c.args.links.now c.args.circle in
    let bound : c.next-index.result < length requests = omega (arith, c.next-index.ensures.within, c.requires.long) in
    ap Some (get_or_read requests c.next-index.result c.index-requests-index.result bound c.index-requests-index.is no_request ∙ ap (request_at requests) c.next-index.ensures.next)
    ∙ sym (first-request requests c.args.links.now c.args.circle waiting h none
    ∙ ap (λ (b : Bool). if b then None else Some (request_at requests next)) (differ next c.args.circle (λ e. c.if-index-circle.false (c.next-index.ensures.next ∙ e))))
