-- Suspension of channel-program execution (SA22-7832, chapter 15): a CCW whose suspend flag is one does not take control.
use Rattle.std.specs.Prelude.{ℕ, true, if◌then◌else◌, None, Some}
use Rattle.scsw_irb.specs.Empty.{no_activity}
use Rattle.scsw_irb.specs.declared.scsw.Scsw.{Scsw}
use Rattle.ccw_walk.specs.Positions.{WalkPosition}
use Rattle.subchannel_model.specs.declared.state.Program.{Program}
use Rattle.subchannel_model.specs.declared.state.SubchannelState.{SubchannelState}
use Rattle.subchannel_model.specs.declared.cause.StatusCause.TheVariants as cause
use Rattle.subchannel_model.specs.Causes.{with_cause}

-- the program is kept, with its position and the residual count. No start waits behind a program that goes on
abbrev pub with_suspended_program : SubchannelState → Program → WalkPosition → ℕ → SubchannelState
with_suspended_program s program walk count =
    record s { waiting = None; begun = None; suspended = Some (record { program = program; walk = walk; count = count }) }

-- activity control: suspended, and nothing else; a resume that is pending is turned off (own)
abbrev pub suspended_alone : Scsw → Scsw
suspended_alone scsw = record scsw { activity = record no_activity { suspended = true } }

-- the program is suspended: intermediate status is made, unless suppress-suspended control (U) of the ORB is one
abbrev pub program_suspended : SubchannelState → Program → WalkPosition → ℕ → SubchannelState
program_suspended s program walk count =
    let still = with_suspended_program s program walk count in
    if program.orb.suppress_suspended then record still { scsw = suspended_alone s.scsw } else with_cause still (cause.Suspension walk.tried count)
