-- The programs of a subchannel: the one that waits, the one that holds the device, and the one that is suspended.
use Rattle.std.specs.Prelude.{◌||◌, Bool, Option, None, is_some}
use Rattle.subchannel_model.specs.declared.state.ActiveProgram.{ActiveProgram}
use Rattle.subchannel_model.specs.declared.state.Program.{Program}
use Rattle.subchannel_model.specs.declared.state.ProgramPosition.{ProgramPosition}
use Rattle.subchannel_model.specs.declared.state.SubchannelState.{SubchannelState}

-- there is one of them
abbrev pub has_any : Option Program → Option ActiveProgram → Option ProgramPosition → Bool
has_any waiting begun suspended = is_some waiting || (is_some begun || is_some suspended)

-- all of them are over
abbrev pub without_programs : SubchannelState → SubchannelState
without_programs s = record s { waiting = None; begun = None; suspended = None }
