-- How a word names a subchannel (SA22-7832, chapter 13).
use Rattle.std.specs.Prelude.{ℕ, ◌==◌, ◌&&◌, nat_lt, Option, Some, None, if◌then◌else◌}
use Rattle.zbits.specs.Bits.{field_of}
use Rattle.channel_config.specs.declared.names.SubchannelId.{SubchannelId}

-- the subchannel that a subsystem-identification word names where there are so many sets:
-- bits 0 to 12 are zero, bits 13 and 14 are the set, bit 15 is one, bits 16 to 31 are the number
abbrev pub subchannel_named : ℕ → ℕ → Option SubchannelId
subchannel_named sets word =
    if field_of word 0 12 == 0 && (field_of word 15 15 == 1 && nat_lt (field_of word 13 14) sets)
    then Some (record { set = field_of word 13 14; number = field_of word 16 31 }) else None
