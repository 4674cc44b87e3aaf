-- Where a subchannel stands among all, by its name or by the side of a unit that it reaches.
use Rattle.std.specs.Prelude.{ℕ, ◌+◌, ◌==◌, ◌&&◌, Bool, List, [], ◌∷◌, slice_get, Option, None, Some, option_map, option_and_then, if◌then◌else◌}
use Rattle.channel_config.specs.declared.names.SubchannelId.{SubchannelId}
use Rattle.chan_model.specs.declared.names.Side.{Side}
use Rattle.chan_model.specs.Sides.{same_side}
use Rattle.subchannel_model.specs.declared.state.Subchannel.{Subchannel}

-- the subchannel has this name
abbrev pub is_named : SubchannelId → Subchannel → Bool
is_named id sub = (sub.setup.id.set == id.set) && (sub.setup.id.number == id.number)

abbrev pub one_later : Option ℕ → Option ℕ
one_later index = option_map (λ p. p + 1) index

-- the index of the first that passes a test
abbrev pub first_index : {A : Type 0} → (A → Bool) → List A → Option ℕ
first_index test [] = None
first_index test (x ∷ xs) = if test x then Some 0 else one_later (first_index test xs)

abbrev pub index_in : SubchannelId → List Subchannel → Option ℕ
index_in id subs = first_index (is_named id) subs

abbrev pub index_of_id : List Subchannel → Option SubchannelId → Option ℕ
index_of_id subs id = option_and_then (λ named. index_in named subs) id

abbrev pub sub_at : List Subchannel → Option ℕ → Option Subchannel
sub_at subs index = option_and_then (slice_get subs) index

-- the subchannel that reaches a side of a unit
abbrev pub reaches : ℕ → Side → Subchannel → Bool
reaches index side sub = (sub.setup.unit == index) && same_side sub.setup.side side

abbrev pub reached_in : ℕ → Side → List Subchannel → Option ℕ
reached_in index side subs = first_index (reaches index side) subs

abbrev pub reached_sub : ℕ → Side → List Subchannel → Option Subchannel
reached_sub index side subs = sub_at subs (reached_in index side subs)

-- a subchannel, and its index among all
pub record Found : Type 0 where
  pub index : ℕ
  pub sub : Subchannel

-- the subchannel of an index, where there is one
abbrev pub found_with : ℕ → Option Subchannel → Option Found
found_with index sub = option_map (λ x. record { index = index; sub = x }) sub

abbrev pub found_at : List Subchannel → Option ℕ → Option Found
found_at subs None = None
found_at subs (Some index) = found_with index (slice_get subs index)
