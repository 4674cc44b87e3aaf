-- Accept: the device accepts the program that was offered (SA22-7832, chapter 15, start function and path management; the signal is this
-- project's own). The program takes the device and its first command is sent; where none can be, or a halt is pending, the device is let go.
-- t is the number of the offer.
use Rattle.std.specs.Prelude.{ℕ, Bool, true, false, not, ◌==◌, ◌&&◌, if◌then◌else◌, Option, None, Some, is_some, slice_set}
use Rattle.scsw_irb.specs.declared.scsw.ActivityControl.{ActivityControl}
use Rattle.scsw_irb.specs.declared.scsw.Scsw.{Scsw}
use Rattle.storage_keys.specs.Storage.{Contents}
use Rattle.chan_model.specs.declared.hold_state.HoldPhase.{HoldPhase}
use Rattle.chan_model.specs.declared.hold_state.HoldPhase.TheVariants as hold
use Rattle.chan_model.specs.declared.hold_state.HoldState.{HoldState}
use Rattle.chan_model.specs.declared.signal.Taken.{Taken}
use Rattle.chan_model.specs.Signals.{Down}
use Rattle.chan_model.specs.HoldTable.{HoldStep, hold_after, outcome_of}
use Rattle.ccw_walk.specs.Sequences.{Nothing}
use Rattle.ccw_walk.specs.Positions.{WalkPosition, walk_position}
use Rattle.data_move.specs.declared.transfer.Beginning.{Beginning}
use Rattle.data_move.specs.declared.transfer.CommandStart.{CommandStart}
use Rattle.data_move.specs.declared.transfer.CommandStart.TheVariants as start
use Rattle.data_move.specs.declared.transfer.Transfer.{Transfer}
use Rattle.data_move.specs.declared.transfer.WithRoom.{WithRoom}
use Rattle.data_move.specs.Commands.{first_command, begun_with_room}
use Rattle.subchannel_model.specs.declared.state.PmcwState.{PmcwState}
use Rattle.subchannel_model.specs.declared.state.Program.{Program}
use Rattle.subchannel_model.specs.declared.state.ProgramPosition.{ProgramPosition}
use Rattle.subchannel_model.specs.declared.state.SubchannelState.{SubchannelState}
use Rattle.subchannel_model.specs.declared.state.UpStep.{UpStep}
use Rattle.subchannel_model.specs.declared.cause.StatusCause.TheVariants as cause
use Rattle.subchannel_model.specs.Causes.{with_cause}
use Rattle.subchannel_model.specs.Outcomes.{signal_ignored, signal_taken, device_released}
use Rattle.subchannel_model.specs.Suspension.{program_suspended}
use Rattle.subchannel_model.specs.Command.{sends_command}

-- a program that waits begins with its first CCW
abbrev pub position_at_start : Program → ProgramPosition
position_at_start program = record { program = program; walk = walk_position program.orb Nothing; count = 0 }

-- a program that is suspended goes on from where it stands, where it is the one of this start
abbrev pub suspended_position : Option ProgramPosition → ℕ → Option ProgramPosition
suspended_position None start = None
suspended_position (Some position) start = if position.program.start == start then Some position else None

-- the program of a start: the one that waits, or the one that is suspended; where neither is of this start, the program is over
abbrev pub position_of_start : Option Program → Option ProgramPosition → ℕ → Option ProgramPosition
position_of_start None suspended start = suspended_position suspended start
position_of_start (Some program) suspended start =
    if program.start == start then Some (position_at_start program) else suspended_position suspended start

-- the program that was offered
abbrev pub offered_position : SubchannelState → Option ProgramPosition
offered_position s = position_of_start s.waiting s.suspended s.offered

-- the program takes the device where it is not over, and no halt is pending
abbrev pub takes_device : SubchannelState → Bool
takes_device s = is_some (offered_position s) && not s.scsw.activity.halt_pending

-- the path is the last used: its bit in the last-path-used mask (LPUM) and in the path-operational mask (POM) is one
abbrev pub with_path_used : PmcwState → ℕ → PmcwState
with_path_used pmcw path = record pmcw { last_used = Some path; operational = slice_set pmcw.operational path true }

-- activity control of the SCSW: start pending, resume pending and suspended become zero, subchannel active and device active one
abbrev pub working_activity : ActivityControl → ActivityControl
working_activity a = record a { start_pending = false; resume_pending = false; suspended = false; subchannel_active = true; device_active = true }

-- no other field of the SCSW changes
abbrev pub working_scsw : Scsw → Scsw
working_scsw scsw = record scsw { activity = working_activity scsw.activity }

-- the program is at work with its first command
abbrev pub with_program_at_work : SubchannelState → Program → Transfer → SubchannelState
with_program_at_work s program transfer = record s {
  scsw = working_scsw s.scsw;
  waiting = None;
  suspended = None;
  begun = Some (record { program = program; primary_shown = false; transfer = transfer });
}

-- the first command is sent, with the room for what it brings
abbrev pub sends_first_command : SubchannelState → ℕ → ℕ → Program → WithRoom → UpStep
sends_first_command s path t program x = sends_command (with_program_at_work s program x.transfer) path t x

-- the first CCW takes control and its command is sent; or it suspends the program, or a check ends it, and the device is let go
abbrev pub first_ccw_outcome : Contents → SubchannelState → ℕ → ℕ → ProgramPosition → WalkPosition → CommandStart → UpStep
first_ccw_outcome storage s path t position walk (start.Begins transfer) =
    sends_first_command s path t position.program (begun_with_room storage transfer)
first_ccw_outcome storage s path t position walk start.Suspends = device_released (program_suspended s position.program walk position.count)
first_ccw_outcome storage s path t position walk (start.Stops check) =
    device_released (with_cause s (cause.FetchFault walk.tried check position.count))

-- first: what the fetch of the first CCW came to
abbrev pub begins_with : Contents → SubchannelState → ℕ → ℕ → ProgramPosition → Beginning → UpStep
begins_with storage s path t position first = first_ccw_outcome storage s path t position first.walk first.outcome

-- where the program is over nothing is sent
abbrev pub begins_at : Contents → SubchannelState → ℕ → ℕ → Option ProgramPosition → UpStep
begins_at storage s path t None = signal_taken s
begins_at storage s path t (Some position) = begins_with storage s path t position (first_command storage position.walk)

-- a halt that is pending is performed as the device is let go
abbrev pub halt_performed : SubchannelState → SubchannelState
halt_performed s = if s.scsw.activity.halt_pending then with_cause s cause.HaltDone else s

-- as the hold took it the program is connected, or the device is let go at once
abbrev pub accepted_in_phase : Contents → SubchannelState → HoldPhase → Taken Down → UpStep
accepted_in_phase storage s (hold.On t path c) taken =
    begins_at storage (record s { pmcw = with_path_used s.pmcw path }) path t (offered_position s)
accepted_in_phase storage s (hold.Letting t path) taken =
    record { state = halt_performed (record s { pmcw = with_path_used s.pmcw path }); outcome = taken }
accepted_in_phase storage s phase taken = record { state = s; outcome = taken }

-- an Accept that the hold does not take is ignored
abbrev pub accepted_by : Contents → SubchannelState → HoldState → Taken Down → UpStep
accepted_by storage s hold taken =
    if taken.taken then accepted_in_phase storage (record s { hold = hold }) hold.phase taken else signal_ignored s

-- Accept: step is what the hold does with it
abbrev pub takes_accept : Contents → SubchannelState → Option HoldStep → UpStep
takes_accept storage s step = accepted_by storage s (hold_after s.hold step) (outcome_of step)
