-- Tables by the identifiers of channel paths, as they are made one entry after another.
use Rattle.std.proofs.Common.{◌≡◌, refl, sym, ◌∙◌, ap, ℕ, ◌+◌, ◌<◌, Bool, List, [], ◌∷◌, ◌++◌, length, take, slice_set, arith}
use Rattle.std.proofs.lemmas.List.{take_more_set}
use Rattle.std.proofs.lemmas.List.FromFn.{map-range_with_len_more}
use Rattle.channel_config.specs.Setup.{has_number}
use Rattle.subchannel_model.specs.Choosing.{any_engages}
use Rattle.subchannel_model.specs.declared.state.Subchannel.{Subchannel}
use Rattle.machine_model.specs.OtherSteps.{engaged_chpids}
use Rattle.machine_model.specs.State.{configured_paths}

pub configured-none : (chpids : List ℕ) → [] ≡ configured_paths chpids 0
unfolding configured_paths
configured-none chpids = refl

configured-next : (chpids : List ℕ) (n : ℕ) → configured_paths chpids n ++ has_number chpids n ∷ [] ≡ configured_paths chpids (n + 1)
unfolding configured_paths
configured-next chpids n = sym (map-range_with_len_more (has_number chpids) 0 n n (omega arith))

pub engaged-none : (subs : List Subchannel) → [] ≡ engaged_chpids subs 0
unfolding engaged_chpids
engaged-none subs = refl

engaged-next : (subs : List Subchannel) (n : ℕ) → engaged_chpids subs n ++ any_engages subs n ∷ [] ≡ engaged_chpids subs (n + 1)
unfolding engaged_chpids
engaged-next subs n = sym (map-range_with_len_more (any_engages subs) 0 n n (omega arith))

-- one entry more
more : (table : List Bool) (n : ℕ) (entry is : Bool) (done next : List Bool) → n < length table → take n table ≡ done → entry ≡ is → done ++ is ∷ [] ≡ next →
    take (n + 1) (slice_set table n entry) ≡ next
more table n entry is done next within so found e =
    take_more_set table n entry within ∙ (ap (λ (b : Bool). take n table ++ b ∷ []) found ∙ (ap (λ (bs : List Bool). bs ++ is ∷ []) so ∙ e))

pub configured-more : (chpids : List ℕ) (table : List Bool) (n : ℕ) (entry : Bool) → n < length table → take n table ≡ configured_paths chpids n →
    entry ≡ has_number chpids n → take (n + 1) (slice_set table n entry) ≡ configured_paths chpids (n + 1)
configured-more chpids table n entry within done found =
    more table n entry (has_number chpids n) (configured_paths chpids n) (configured_paths chpids (n + 1)) within done found (configured-next chpids n)

pub engaged-more : (subs : List Subchannel) (table : List Bool) (n : ℕ) (entry : Bool) → n < length table → take n table ≡ engaged_chpids subs n →
    entry ≡ any_engages subs n → take (n + 1) (slice_set table n entry) ≡ engaged_chpids subs (n + 1)
engaged-more subs table n entry within done found =
    more table n entry (any_engages subs n) (engaged_chpids subs n) (engaged_chpids subs (n + 1)) within done found (engaged-next subs n)
