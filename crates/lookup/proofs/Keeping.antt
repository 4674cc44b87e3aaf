-- Tables stay right while no subchannel comes, goes or is set up otherwise.
use Rattle.std.proofs.Common.{◌≡◌, refl, sym, ◌∙◌, ap, ℕ, ◌==◌, ◌&&◌, Bool, Option, Some, List, [], ◌∷◌, map, if◌then◌else◌}
use Rattle.chan_model.specs.Sides.{same_side}
use Rattle.channel_config.specs.declared.parts.SubchannelSetup.{SubchannelSetup}
use Rattle.subchannel_model.specs.declared.state.Subchannel.{Subchannel}
use Rattle.subchannel_model.specs.Indices.{first_index, one_later}
use Rattle.lookup.specs.Tables.{Tables, Fits, id_at}

-- they are set up alike
abbrev AreAlike : List Subchannel → List Subchannel → Type 0
AreAlike old new = map (λ (x : Subchannel). x.setup) new ≡ map (λ (x : Subchannel). x.setup) old

index-kept : (test : SubchannelSetup → Bool) (old new : List Subchannel) → AreAlike old new → first_index (λ x. test x.setup) new ≡ first_index (λ x. test x.setup) old
index-kept test [] [] e = refl
index-kept test [] (y ∷ ys) e = absurd (cc e)
index-kept test (x ∷ xs) [] e = absurd (cc e)
index-kept test (x ∷ xs) (y ∷ ys) e =
    let head : y.setup ≡ x.setup = cc e in
    let tail : AreAlike xs ys = cc e in
    ap (λ (s : SubchannelSetup). if test s then Some 0 else one_later (first_index (λ x. test x.setup) ys)) head
    ∙ ap (λ (o : Option ℕ). if test x.setup then Some 0 else one_later o) (index-kept test xs ys tail)

pub fits-kept : (t : Tables) (old new : List Subchannel) → AreAlike old new → Fits t old → Fits t new
fits-kept t old new e f = record {
  named = λ k p h. f.named k p h
      ∙ sym (index-kept (λ s. (s.id.set == (id_at k).set) && (s.id.number == (id_at k).number)) old new e);
  sides = λ side k p h. f.sides side k p h
      ∙ sym (index-kept (λ s. (s.«unit» == k) && same_side s.side side) old new e);
}
