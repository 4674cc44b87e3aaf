-- The events of calls whose numbers or bytes may be no good (own).
use Rattle.std.specs.Prelude.{ℕ, nat_le, List, length, Option, Some, None, if◌then◌else◌}
use Rattle.chan_model.specs.declared.names.Side.{Side}
use Rattle.chan_events.specs.Events.{Event}
use Rattle.chan_events.specs.declared.event.Event.TheVariants as event
use Rattle.chan_events.specs.declared.event.UnitAct.{UnitAct}
use Rattle.chan_events.specs.declared.event.UnitAct.TheVariants as act
use Rattle.storage_keys.specs.Storage.{key_of_byte}

-- an act of a unit, told to a side
abbrev pub attention : ℕ → Side → UnitAct
attention path side = act.Attention path side

abbrev pub notice : ℕ → Side → UnitAct
notice path side = act.Notice path side

abbrev pub act_of : ℕ → (Side → UnitAct) → Option Side → Option Event
act_of at told None = None
act_of at told (Some side) = Some (event.Act at (told side))

abbrev pub put_of : ℕ → List ℕ → Option Event
put_of address bytes = if nat_le (length bytes) 256 then Some (event.Put address bytes) else None

abbrev pub key_of : ℕ → ℕ → Option Event
key_of address key = if nat_le key 0xFF then Some (event.SetKey address (key_of_byte key)) else None
