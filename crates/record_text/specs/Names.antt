-- The names of subchannels and wires as scripts have them.
use Rattle.std.specs.Prelude.{ℕ, ◌+◌, ◌*◌, ◌==◌, List, codes, Option, None, Some, slice_get, if◌then◌else◌}
use Rattle.channel_config.specs.declared.parts.SubchannelSetup.{SubchannelSetup}
use Rattle.step_records.specs.declared.parties.Parties.{Parties}
use Rattle.channel_config.specs.declared.names.SubchannelId.{SubchannelId}
use Rattle.step_records.specs.declared.record.Way.{Way}
use Rattle.step_records.specs.declared.record.Way.TheVariants.{Down, Up}
use Rattle.record_text.specs.Numbers.{hexadecimal}

-- the number alone in set 0, else the subsystem-identification word: bits 13 and 14 the set, bit 15 one (SA22-7832, chapter 13)
abbrev pub name_number : SubchannelId → ℕ
name_number id = if id.set == 0 then id.number else id.set * 0x20000 + 0x10000 + id.number

abbrev pub subchannel_name : SubchannelId → List ℕ
subchannel_name id = hexadecimal (name_number id)

-- the subchannel of an index; the index, where there is none
abbrev pub name_or : ℕ → Option SubchannelSetup → List ℕ
name_or index None = hexadecimal index
name_or index (Some setup) = subchannel_name setup.id

abbrev pub subchannel_text : Parties → ℕ → List ℕ
subchannel_text parties index = name_or index (slice_get parties.subchannels.items index)

abbrev pub way_text : Way → List ℕ
way_text Down = codes "down"
way_text Up = codes "up"
