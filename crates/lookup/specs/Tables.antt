-- What is kept beside the subchannels, so that an event need not pass through all of them (own).
use Rattle.std.specs.Prelude.{◌≡◌, ℕ, ◌+◌, ◌*◌, ◌<◌, ◌/◌, ◌%◌, nat_lt, List, Option, None, Some, true, length, slice_get, slice_set, slice_index_or, if◌then◌else◌}
use Rattle.chan_model.specs.declared.names.Side.{Side}
use Rattle.chan_model.specs.declared.names.Side.TheVariants.{First, Second}
use Rattle.chan_model.specs.ResetCauses.{engaged_path}
use Rattle.chan_model.specs.Sides.{same_side}
use Rattle.channel_config.specs.declared.names.SubchannelId.{SubchannelId}
use Rattle.subchannel_model.specs.declared.state.Subchannel.{Subchannel}
use Rattle.subchannel_model.specs.Indices.{index_in, reached_in}
use Rattle.subchannel_model.specs.Choosing.{engages}

-- the indices of the subchannels by their names, and by the side of the unit that they reach
pub record Tables : Type 0 where
  pub named : List (Option ℕ)
  pub firsts : List (Option ℕ)
  pub seconds : List (Option ℕ)

-- the table of a side of the units
abbrev pub of_side : Side → Tables → List (Option ℕ)
of_side First t = t.firsts
of_side Second t = t.seconds

-- each entry of a table is what a function gives for its key
abbrev pub IsTable : (ℕ → Option ℕ) → List (Option ℕ) → Type 0
IsTable f table = (k : ℕ) (p : Option ℕ) → slice_get table k ≡ Some p → p ≡ f k

-- the name that an entry stands for: each set has 256 of them
abbrev pub id_at : ℕ → SubchannelId
id_at k = record { set = k / 0x100; number = k % 0x100 }

-- the tables are those of these subchannels
pub record Fits (t : Tables) (subs : List Subchannel) : Type 0 where
  pub named : IsTable (λ k. index_in (id_at k) subs) t.named
  pub sides : (side : Side) → IsTable (λ u. reached_in u side subs) (of_side side t)

-- there is an entry for each name of so many sets, and for each side of so many units
pub record HasSize (t : Tables) (sets units : ℕ) : Type 0 where
  pub named : length t.named ≡ sets * 0x100
  pub sides : (side : Side) → length (of_side side t) ≡ units

-- the entry of a name
abbrev pub name_index : SubchannelId → Option ℕ
name_index id = if nat_lt id.number 0x100 then Some (id.set * 0x100 + id.number) else None

-- the entry of a subchannel in the table of a side
abbrev pub unit_index : Side → Subchannel → Option ℕ
unit_index side sub = if same_side sub.setup.side side then Some sub.setup.unit else None

-- the table with an index in this entry
abbrev pub with_entry : List (Option ℕ) → Option ℕ → ℕ → List (Option ℕ)
with_entry table None index = table
with_entry table (Some key) index = slice_set table key (Some index)

-- the tables with a subchannel that stands at this index
abbrev pub entered : ℕ → Subchannel → Tables → Tables
entered index sub t = record {
  named = with_entry t.named (name_index sub.setup.id) index;
  firsts = with_entry t.firsts (unit_index First sub) index;
  seconds = with_entry t.seconds (unit_index Second sub) index;
}

-- the channel path whose engine a subchannel engages
abbrev pub chpid_at : Subchannel → Option ℕ → Option ℕ
chpid_at sub None = None
chpid_at sub (Some path) = slice_get sub.setup.paths path

abbrev pub engaged : Subchannel → Option ℕ
engaged sub = chpid_at sub (engaged_path sub.state.hold.phase)

-- the entry of an engine: the index of the subchannel that it serves
abbrev pub server : List (Option ℕ) → ℕ → Option ℕ
server table c = slice_index_or table c None

-- the engines serve these subchannels: one that engages the engine of a channel path is the one that its entry names, and the
-- one that an entry names engages that engine
pub record Serves (table : List (Option ℕ)) (subs : List Subchannel) : Type 0 where
  pub size : length table ≡ 0x100
  pub named : (c index : ℕ) (sub : Subchannel) → c < 0x100 → slice_get subs index ≡ Some sub → engages c sub ≡ true → server table c ≡ Some index
  pub engaged : (c index : ℕ) → c < 0x100 → server table c ≡ Some index → (sub : Subchannel) × (slice_get subs index ≡ Some sub) × (engages c sub ≡ true)

-- the engine of a channel path serves no subchannel
abbrev pub without_server : List (Option ℕ) → Option ℕ → List (Option ℕ)
without_server table None = table
without_server table (Some c) = slice_set table c None

-- the subchannel at an index, which engaged the engine before, engages the engine after
abbrev pub served_at : ℕ → Option ℕ → Option ℕ → List (Option ℕ) → List (Option ℕ)
served_at index before after table = with_entry (without_server table before) after index
