use Rattle.std.proofs.Common.{◌≡◌, ◌++◌, [], ◌∷◌, take, arith, sym, ap, ◌∙◌}
use Rattle.std.proofs.lemmas.List.{take_more}
use Rattle.std.proofs.lemmas.Option.{get_or_from_slice_get}
use Rattle.subsystem.specs.Keeping.{all_serials}
use Rattle.glance_directory.proofs.seen_serials.first_seen_serials.Goals as goal

pub loop-index-preserved : goal.loop-index-preserved
loop-index-preserved g c =
    let all = all_serials c.args.subsystem.now.state in
    let k = c.loop-index.index in
    let x = c.serials_at.result in
    let before : c.loop-index.seen_serials.items ≡ take k all = c.loop-index.invariant.seen_serials in
    record {
      seen_serials = c.in_ok-push.ensures.pushed ∙ ap (λ l. l ++ x ∷ []) before ∙ sym (take_more all k x (omega arith) ∙ ap (λ y. take k all ++ y ∷ []) (get_or_from_slice_get all k x x c.serials_at.ensures.value));
      unrefused = c.in_ok-push.ensures.unrefused ∙ c.loop-index.invariant.unrefused;
    }
