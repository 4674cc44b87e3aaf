use Rattle.std.proofs.Common.{◌≡◌, ◌<◌, ◌∙◌, sym, ap, subst, length, arith}
use Rattle.std.proofs.lemmas.List.{get_or_read}
use Rattle.interruptions.specs.Circles.{Circles, former_of, pushed}
use Rattle.interruptions.specs.Paths.{IsPut}
use Rattle.interruptions.proofs.Turns.{is-put, put_after}
use Rattle.interruptions.proofs.links.Links.push.Goals as goal

at_within : (c : goal.After-self-4-1) → c.args.at < length c.self.inside.next.items
at_within c = subst (λ (k : Circles). c.args.at < length k.next) (sym c.self.view_is) c.requires.at

pub returns-clause-links : goal.returns-clause-links
returns-clause-links c =
    let last = c.index-last.result.now in
    let is : last ≡ former_of c.args.self.now c.args.at =
    get_or_read c.self.inside.former.items c.args.at last (omega (arith, at_within c, c.self.invariant.same)) c.index-last.ensures 0
    ∙ ap (λ (k : Circles). former_of k c.args.at) c.self.view_is in
    ap (λ (k : Circles). put_after k c.args.at c.args.number last) c.self.view_is ∙ ap (put_after c.args.self.now c.args.at c.args.number) is

pub returns-clause-circles : goal.returns-clause-circles
returns-clause-circles c =
    let at = c.args.at in
    let number = c.args.number in
    subst (IsPut c.args.self.now at number) (sym (returns-clause-links c))
    (subst (λ (k : Circles). IsPut k at number (pushed k at number)) c.self.view_is
    (is-put (record { next = c.self.inside.next.items; former = c.self.inside.former.items }) c.self.invariant at number (at_within c)
    (subst (λ (k : Circles). number < length k.next) (sym c.self.view_is) c.requires.number)))
