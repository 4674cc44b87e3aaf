use Rattle.std.proofs.Common.{◌∙◌, sym, ap, ap₂, ◌+◌, ◌*◌, ℕ, Bool, List, false}
use Rattle.std.specs.Prelude.{slice_index_or, slice_set}
use Rattle.chan_model.specs.PathSets.{mask_of_paths, members}
use Rattle.chan_model.proofs.PathFilling.{all-set, set_each}
use Rattle.io_step.proofs.others.engaged_byte.Goals as goal

pub loop-path-init : goal.loop-path-init
loop-path-init c =
    let is_engaged : ℕ → Bool = λ p. slice_index_or c.args.engaged.now (8 * c.args.index + p) false in
    ap₂ (set_each is_engaged) c.none-set.ensures (c.into_iter-path-iterator.ensures.into_iter_gives ∙ c.each_path-path-items.ensures ∙ ap members c.all.ensures)
    ∙ all-set is_engaged

pub loop-path-preserved : goal.loop-path-preserved
loop-path-preserved c =
    let is_engaged : ℕ → Bool = λ p. slice_index_or c.args.engaged.now (8 * c.args.index + p) false in
    ap (λ (set : List Bool). set_each is_engaged set c.next.new.self)
    (c.set.ensures ∙ ap (λ (p : ℕ). slice_set c.loop-path.set c.in-Some.path (is_engaged p)) c.index.ensures.value)
    ∙ sym (ap (set_each is_engaged c.loop-path.set) c.in-Some.ensures.steps)
    ∙ c.loop-path.invariant

pub returns : goal.returns
returns c =
    let is_engaged : ℕ → Bool = λ p. slice_index_or c.args.engaged.now (8 * c.args.index + p) false in
    c.mask.ensures.mask
    ∙ ap mask_of_paths (sym (ap (set_each is_engaged c.loop-path.set) c.in-None.ensures.steps.0) ∙ c.loop-path.invariant)
