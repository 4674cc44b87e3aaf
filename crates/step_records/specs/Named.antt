-- The subchannels that are named by words.
use Rattle.std.specs.Prelude.{◌+◌, ◌*◌, ◌%◌, ◌==◌, ◌&&◌, ℕ, List, position, Option, None, Some}
use Rattle.chan_model.specs.declared.names.Side.{Side}
use Rattle.chan_model.specs.Sides.{same_side}
use Rattle.channel_config.specs.declared.names.SubchannelId.{SubchannelId}
use Rattle.channel_config.specs.declared.parts.SubchannelSetup.{SubchannelSetup}
use Rattle.chan_events.specs.Events.{Event}
use Rattle.chan_events.specs.declared.event.Event.TheVariants as event
use Rattle.chan_events.specs.Instructions.{subchannel_word}
use Rattle.step_records.specs.declared.parties.Parties.{Parties}

-- the subsystem-identification word of a subchannel (SA22-7832, chapter 13)
abbrev pub word_of : SubchannelId → ℕ
word_of id = id.set % 4 * 0x2_0000 + 0x1_0000 + id.number

-- the index of the subchannel that a word names
abbrev pub index_of : List SubchannelSetup → ℕ → Option ℕ
index_of setups word = position (λ (s : SubchannelSetup). word_of s.id == word) setups

-- the index of the subchannel that is this side of a unit
abbrev pub index_at : List SubchannelSetup → ℕ → Side → Option ℕ
index_at setups number side = position (λ (s : SubchannelSetup). (s.unit == number) && same_side s.side side) setups

-- the index of the subchannel that an event names
abbrev pub named_by : Parties → Event → Option ℕ
named_by parties (event.Execute cpu i) = index_of parties.subchannels.items (subchannel_word i)
named_by parties (event.Choose word) = index_of parties.subchannels.items word
named_by parties (event.Up word path) = index_of parties.subchannels.items word
named_by parties (event.Down word path) = index_of parties.subchannels.items word
named_by parties other = None
