-- Subchannels whose requests for interruptions find room.
use Rattle.std.specs.Prelude.{◌<◌}
use Rattle.subchannel_model.specs.declared.state.Subchannel.{Subchannel}

-- the number of the subchannel is one of its set
abbrev pub IsPostable : Subchannel → Type 0
IsPostable sub = sub.setup.id.number < 0x100
