-- Which subchannels' serials an event may change (own).
use Rattle.std.specs.Prelude.{◌≡◌, ◌<◌, ℕ, List, Option, None, Some, slice_set}
use Rattle.scsw_irb.specs.declared.serials.Serials.{Serials}
use Rattle.chan_events.specs.Events.{Event}
use Rattle.chan_events.specs.declared.event.Event.TheVariants as event
use Rattle.chan_events.specs.Instructions.{subchannel_word}
use Rattle.machine_model.specs.State.{State, index_of}
use Rattle.glance_directory.specs.declared.touching.ChangedSerials.{ChangedSerials}
use Rattle.glance_directory.specs.declared.touching.ChangedSerials.TheVariants.{Nothing, Place, All}

abbrev pub touched_at : Option ℕ → ChangedSerials
touched_at None = Nothing
touched_at (Some index) = Place index

abbrev pub touched_word : State → ℕ → ChangedSerials
touched_word s word = touched_at (index_of s word)

-- an instruction, a choice and a signal that comes up: those of the subchannel that they name. What happens to a channel path, and
-- a reset of the subsystem: those of all. Anything else: none
abbrev pub touched : State → Event → ChangedSerials
touched s (event.Execute cpu i) = touched_word s (subchannel_word i)
touched s (event.Choose word) = touched_word s word
touched s (event.Up word path) = touched_word s word
touched s (event.PathDown chpid) = All
touched s (event.PathUp chpid) = All
touched s (event.PathReset chpid) = All
touched s event.SystemReset = All
touched s e = Nothing

-- such serials alone are changed
abbrev pub Changes : ChangedSerials → List Serials → List Serials → Type 0
Changes Nothing old new = new ≡ old
Changes (Place index) old new = (after : Serials) × (new ≡ slice_set old index after)
Changes All old new = Unit {0}

-- the index is one of so many
abbrev pub IsThere : ChangedSerials → ℕ → Type 0
IsThere Nothing count = Unit {0}
IsThere (Place index) count = index < count
IsThere All count = Unit {0}
