use Rattle.std.proofs.Common.{◌∙◌, sym, ap, subst, ℕ, ◌<◌, Option, List, length}
use Rattle.std.specs.Prelude.{IfSome, slice_get}
use Rattle.subchannel_model.specs.Indices.{is_named}
use Rattle.lookup.specs.Tables.{Tables}
use Rattle.lookup.proofs.Lookups.{named-index, index-within}
use Rattle.lookup.proofs.tables.SubchannelIndex.index_in.Goals as goal

pub returns-in-Some-entry-clause-index : goal.returns-in-Some-entry-clause-index
returns-in-Some-entry-clause-index c =
    let table = c.deref.ensures.value ∙ ap (λ (t : Tables). t.named) c.self.view_is in
    named-index c.args.self.now c.args.subs.now c.args.id c.in-Some.key c.in-Some-entry.index c.requires (sym c.in-Some.is ∙ c.name_index.ensures)
    (ap (λ (xs : List (Option ℕ)). slice_get xs c.in-Some.key) (sym table) ∙ (sym c.entry.ensures ∙ c.in-Some-entry.is))

pub returns-in-Some-entry-clause-bound : goal.returns-in-Some-entry-clause-bound
returns-in-Some-entry-clause-bound c =
    subst (λ (o : Option ℕ). IfSome o (λ p. p < length c.args.subs.now)) (sym (returns-in-Some-entry-clause-index c)) (index-within (is_named c.args.id) c.args.subs.now)
