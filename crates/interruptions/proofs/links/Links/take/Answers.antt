use Rattle.std.proofs.Common.{◌≡◌, ◌<◌, ◌∙◌, sym, ap, subst, ℕ, length, arith}
use Rattle.std.proofs.lemmas.List.{get_or_read}
use Rattle.interruptions.specs.Circles.{Circles, former_of, next_of, taken}
use Rattle.interruptions.specs.Paths.{IsTaken}
use Rattle.interruptions.proofs.Turns.{is-taken, joined_over}
use Rattle.interruptions.proofs.links.Links.take.Goals as goal

within : (c : goal.After-self-4-1) → c.args.number < length c.self.inside.next.items
within c = subst (λ (k : Circles). c.args.number < length k.next) (sym c.self.view_is) c.requires

pub returns-clause-links : goal.returns-clause-links
returns-clause-links c =
    let p = c.args.number in
    let next = c.index-next.result.now in
    let former = c.index-former.result.now in
    let is : next ≡ next_of c.args.self.now p = get_or_read c.self.inside.next.items p next (within c) c.index-next.ensures 0 ∙ ap (λ (k : Circles). next_of k p) c.self.view_is in
    let was : former ≡ former_of c.args.self.now p =
    get_or_read c.self.inside.former.items p former (omega (arith, within c, c.self.invariant.same)) c.index-former.ensures 0 ∙ ap (λ (k : Circles). former_of k p) c.self.view_is in
    ap (λ (k : Circles). joined_over k p next former) c.self.view_is
    ∙ ap (λ (n : ℕ). joined_over c.args.self.now p n former) is
    ∙ ap (joined_over c.args.self.now p (next_of c.args.self.now p)) was

pub returns-clause-circles : goal.returns-clause-circles
returns-clause-circles c =
    let number = c.args.number in
    subst (IsTaken c.args.self.now number) (sym (returns-clause-links c))
    (subst (λ (k : Circles). IsTaken k number (taken k number)) c.self.view_is
    (is-taken (record { next = c.self.inside.next.items; former = c.self.inside.former.items }) c.self.invariant number (within c)))
