use Rattle.std.proofs.Common.{◌≡◌, ◌∙◌, sym, ap, ap₂, ℕ, Bool, List, not, ◌&&◌}
use Rattle.std.specs.Prelude.{slice_set}
use Rattle.allegiance.specs.PathUse.{allowed_paths, reachable_paths}
use Rattle.chan_model.specs.PathSets.{in_both, is_member, members}
use Rattle.chan_model.proofs.PathFilling.{members-set, set_each}
use Rattle.subchannel_model.specs.Choosing.{engaged_paths, path_use}
use Rattle.subchannel.proofs.paths.usable_paths.Goals as goal

pub loop-path-init : goal.loop-path-init
loop-path-init c =
    let stays : ℕ → Bool = λ p. not (is_member (engaged_paths c.args.subs.now c.args.sub.now) p) in
    let uses = path_use c.args.sub.now in
    let near : c.reachable-reachable.result ≡ reachable_paths uses = c.reachable-reachable.ensures ∙ ap reachable_paths c.path_use.ensures in
    ap₂ (set_each stays) near (c.into_iter-path-iterator.ensures.into_iter_gives ∙ c.each_path-path-items.ensures ∙ ap members near)
    ∙ members-set stays (λ p. is_member (in_both (allowed_paths uses) uses.installed) p && is_member uses.available p)

pub loop-path-preserved : goal.loop-path-preserved
loop-path-preserved c =
    let stays : ℕ → Bool = λ p. not (is_member (engaged_paths c.args.subs.now c.args.sub.now) p) in
    ap (λ (set : List Bool). set_each stays set c.next.new.self)
    (c.set.ensures ∙ ap (λ (b : Bool). slice_set c.loop-path.usable c.in-Some.path (not b)) c.is_engaged.ensures)
    ∙ sym (ap (set_each stays c.loop-path.usable) c.in-Some.ensures.steps)
    ∙ c.loop-path.invariant

pub returns : goal.returns
returns c =
    let stays : ℕ → Bool = λ p. not (is_member (engaged_paths c.args.subs.now c.args.sub.now) p) in
    sym (ap (set_each stays c.loop-path.usable) c.in-None.ensures.steps.0) ∙ c.loop-path.invariant
