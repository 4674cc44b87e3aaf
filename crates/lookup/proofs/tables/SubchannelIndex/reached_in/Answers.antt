use Rattle.std.proofs.Common.{◌∙◌, sym, ap, subst, ℕ, ◌<◌, Option, List, length}
use Rattle.std.specs.Prelude.{IfSome, slice_get}
use Rattle.subchannel_model.specs.Indices.{reaches}
use Rattle.lookup.proofs.Lookups.{index-within}
use Rattle.lookup.proofs.tables.SubchannelIndex.reached_in.Goals as goal

pub returns-in-Some-clause-index : goal.returns-in-Some-clause-index
returns-in-Some-clause-index c =
    c.requires.sides c.args.side c.args.«unit» c.in-Some.index
    (ap (λ (xs : List (Option ℕ)). slice_get xs c.args.«unit») (sym c.of_side.ensures) ∙ (sym c.entry.ensures ∙ c.in-Some.is))

pub returns-in-Some-clause-bound : goal.returns-in-Some-clause-bound
returns-in-Some-clause-bound c =
    subst (λ (o : Option ℕ). IfSome o (λ p. p < length c.args.subs.now)) (sym (returns-in-Some-clause-index c)) (index-within (reaches c.args.«unit» c.args.side) c.args.subs.now)
