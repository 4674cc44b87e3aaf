-- End: a command ended with device status (SA22-7832, chapters 15 and 16, command chaining and conclusion; the signal is this project's
-- own). The next command is chained to, or status is made. `Ends` has what of the device status breaks a chain, and what is shown.
use Rattle.std.specs.Prelude.{ℕ, true, ◌==◌, if◌then◌else◌, Option, None, Some}
use Rattle.allegiance.specs.Allegiances.{dedicated_after}
use Rattle.allegiance.specs.declared.allegiances.AllegianceCause.TheVariants as allegiance
use Rattle.storage_keys.specs.Storage.{Contents}
use Rattle.chan_model.specs.HoldTable.{is_on}
use Rattle.chan_model.specs.UnitReports.{is_last_end, has_device_end, has_unit_check}
use Rattle.ccw_walk.specs.Positions.{WalkPosition}
use Rattle.data_move.specs.Moving.{residual}
use Rattle.data_move.specs.declared.transfer.Beginning.{Beginning}
use Rattle.data_move.specs.declared.transfer.CommandStart.{CommandStart}
use Rattle.data_move.specs.declared.transfer.CommandStart.TheVariants as start
use Rattle.data_move.specs.declared.transfer.WithRoom.{WithRoom}
use Rattle.data_move.specs.Commands.{next_command, begun_with_room}
use Rattle.subchannel_model.specs.declared.signals.EndSignal.{EndSignal}
use Rattle.subchannel_model.specs.declared.state.ActiveProgram.{ActiveProgram}
use Rattle.subchannel_model.specs.declared.state.SubchannelState.{SubchannelState}
use Rattle.subchannel_model.specs.declared.state.UpStep.{UpStep}
use Rattle.subchannel_model.specs.declared.cause.StatusCause.TheVariants as cause
use Rattle.subchannel_model.specs.Causes.{with_cause}
use Rattle.subchannel_model.specs.Ends.{has_status_modifier, chains_command}
use Rattle.subchannel_model.specs.Outcomes.{signal_ignored, signal_taken, device_released}
use Rattle.subchannel_model.specs.Suspension.{program_suspended}
use Rattle.subchannel_model.specs.Command.{sends_command, with_transfer}

-- what the End leaves of the dedicated allegiance, as `allegiance` defines it. While one stands, the program whose unit check brought it is
-- over, since unit check comes with the last End of a program: each Data and each End that is taken then is of a later program
abbrev pub dedicated_after_end : Option ℕ → EndSignal → Option ℕ
dedicated_after_end dedicated signal = dedicated_after dedicated (allegiance.End signal.path (has_unit_check signal.status) true)

-- the dedicated allegiance alone changes
abbrev pub with_allegiance_after_end : SubchannelState → EndSignal → SubchannelState
with_allegiance_after_end s signal = record s { dedicated = dedicated_after_end s.dedicated signal }

-- Command chaining

-- the first End of the command came
abbrev pub with_first_end : ActiveProgram → ActiveProgram
with_first_end b = record b { transfer = record b.transfer { ended = true } }

-- the next command is sent, with the room for what it brings
abbrev pub sends_next_command : SubchannelState → ActiveProgram → EndSignal → WithRoom → UpStep
sends_next_command s b signal x = sends_command (with_transfer s b x.transfer) signal.path signal.number x

-- the next CCW takes control and its command is sent; or it suspends the program, or a check ends it, and the device is let go
abbrev pub next_ccw_outcome : Contents → SubchannelState → ActiveProgram → EndSignal → WalkPosition → CommandStart → UpStep
next_ccw_outcome storage s b signal walk (start.Begins transfer) = sends_next_command s b signal (begun_with_room storage transfer)
next_ccw_outcome storage s b signal walk start.Suspends =
    device_released (program_suspended (with_allegiance_after_end s signal) b.program walk (residual b.transfer.moving))
next_ccw_outcome storage s b signal walk (start.Stops check) =
    device_released (with_cause (with_allegiance_after_end s signal) (cause.FetchFault walk.tried check (residual b.transfer.moving)))

-- next: what the fetch of the next CCW came to
abbrev pub chains_with : Contents → SubchannelState → ActiveProgram → EndSignal → Beginning → UpStep
chains_with storage s b signal next = next_ccw_outcome storage s b signal next.walk next.outcome

-- the next command is chained to at device end; with channel end alone the program waits for that
abbrev pub chains_at_device_end : Contents → SubchannelState → ActiveProgram → EndSignal → UpStep
chains_at_device_end storage s b signal =
    if has_device_end signal.status then chains_with storage s b signal (next_command storage b.transfer (has_status_modifier signal.status))
    else signal_taken (record (with_allegiance_after_end s signal) { begun = Some b })

-- Conclusion

-- an End after which nothing is chained makes status
abbrev pub with_end_status : SubchannelState → ActiveProgram → EndSignal → SubchannelState
with_end_status s b signal =
    record (with_cause s (cause.End b signal.status signal.more)) { dedicated = dedicated_after_end s.dedicated signal }

-- the last End of a program lets the device go too
abbrev pub concludes : SubchannelState → ActiveProgram → EndSignal → UpStep
concludes s b signal =
    let shown = with_end_status s b signal in
    if is_last_end signal.status then device_released shown else signal_taken shown

-- End

-- of a command that chains, or that concludes the program
abbrev pub ends_command : Contents → SubchannelState → ActiveProgram → EndSignal → UpStep
ends_command storage s b signal =
    if chains_command s.scsw b signal.status signal.more then chains_at_device_end storage s (with_first_end b) signal else concludes s b signal

-- of the command at hand of the program at work; another is ignored
abbrev pub ends_at_work : Contents → SubchannelState → Option ActiveProgram → EndSignal → UpStep
ends_at_work storage s None signal = signal_ignored s
ends_at_work storage s (Some b) signal = if signal.command == b.transfer.command then ends_command storage s b signal else signal_ignored s

-- of the program that is connected; another is ignored
abbrev pub takes_end : Contents → SubchannelState → EndSignal → UpStep
takes_end storage s signal = if is_on s.hold.phase signal.number then ends_at_work storage s s.begun signal else signal_ignored s
