use Rattle.std.proofs.Common.{◌≡◌, ◌∙◌, ap, ap₂, List, [], slice_index_or, slice_set, take, rules, ◌++◌, ◌∷◌}
use Rattle.std.proofs.lemmas.List.{get_or_push, length-take-le, set_at}
use Rattle.event_log.specs.declared.entries.KeptEntry.{KeptEntry}
use Rattle.event_log.proofs.logs.push_same.Goals as goal

pub returns-clause-items : goal.returns-clause-items
returns-clause-items c =
    let number = c.args.count in
    let found = c.index_mut.result.now in
    let added = c.push_copy.ensures.items ∙ ap (λ (ks : List KeptEntry). ks ++ c.args.kept.now ∷ []) c.truncate.ensures.items in
    let long = length-take-le number c.args.entries.now.items (search rules) in
    let same : found ≡ c.args.kept.now =
    c.index_mut.ensures.value ∙ ap (λ (ks : List KeptEntry). slice_index_or ks number found) added
    ∙ get_or_push (take number c.args.entries.now.items) _ found number long in
    ap₂ (λ (ks : List KeptEntry) (k : KeptEntry). slice_set ks number (record k { start = c.args.start })) added same
    ∙ set_at (take number c.args.entries.now.items) _ [] _ number long
