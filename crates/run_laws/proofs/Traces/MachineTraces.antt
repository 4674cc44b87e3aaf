-- What was done for the program that a subchannel offered last: a function of the run (SA22-7832, chapter 15).
use Rattle.std.specs.Prelude.{ℕ, ◌+◌, ◌==◌, Bool, true, false, is_some, if◌then◌else◌, Option, None, Some, List, slice_get}
use Rattle.scsw_irb.specs.declared.status.DeviceStatus.{DeviceStatus}
use Rattle.storage_keys.specs.Storage.{Contents}
use Rattle.chan_model.specs.declared.hold_state.HoldPhase.{HoldPhase}
use Rattle.chan_model.specs.declared.hold_state.HoldPhase.TheVariants as hold
use Rattle.chan_model.specs.declared.signal.Taken.{Taken}
use Rattle.chan_model.specs.declared.signal.OnPath.{OnPath}
use Rattle.chan_model.specs.Signals.{Load, Up, load_bytes}
use Rattle.chan_model.specs.declared.signal.Up.TheVariants as up
use Rattle.chan_events.specs.Events.{Event}
use Rattle.chan_events.specs.declared.event.Event.TheVariants as event
use Rattle.chan_events.specs.declared.reply.Entry.{Entry}
use Rattle.chan_events.specs.Replies.{Reply}
use Rattle.chan_model.specs.HoldTable.{HoldStep, hold_takes, hold_after, outcome_of, is_connected, is_on}
use Rattle.chan_model.specs.Loads.{load_length}
use Rattle.chan_model.specs.UnitReports.{is_outward, has_device_end}
use Rattle.ccw_walk.specs.Sequences.{Sequence, Nothing, ◌▸◌, ◌▸▸◌, count}
use Rattle.ccw_walk.specs.Acts.{Act, End}
use Rattle.ccw_walk.specs.Programs.{commands}
use Rattle.ccw_walk.specs.Positions.{WalkPosition, walk_position}
use Rattle.data_move.specs.declared.transfer.Transfer.{Transfer}
use Rattle.data_move.specs.declared.transfer.CommandStart.{CommandStart}
use Rattle.data_move.specs.declared.transfer.CommandStart.TheVariants as outcome
use Rattle.data_move.specs.Commands.{first_command, next_command, begun_with_room}
use Rattle.data_move.specs.ChunkNumbers.{is_answered}
use Rattle.wires.specs.Queues.{first_of}
use Rattle.subchannel_model.specs.declared.state.ActiveProgram.{ActiveProgram}
use Rattle.subchannel_model.specs.declared.state.Program.{Program}
use Rattle.subchannel_model.specs.declared.state.ProgramPosition.{ProgramPosition}
use Rattle.subchannel_model.specs.declared.state.Subchannel.{Subchannel}
use Rattle.subchannel_model.specs.declared.state.SubchannelState.{SubchannelState}
use Rattle.machine_model.specs.State.{State, index_of}
use Rattle.subchannel_model.specs.Indices.{reached_in}
use Rattle.subchannel_model.specs.Ends.{has_status_modifier, chains_command}
use Rattle.subchannel_model.specs.Accept.{takes_device}
use Rattle.machine_model.specs.Steps.{Run, Opened, Stepped}
use Rattle.run_laws.proofs.Traces.MachineActs.{with_acts, first_acts, next_acts, gives, takes_in}
use Rattle.run_laws.specs.Traces.{no_trace, ProgramTrace, past_part, chosen_at, taken_at, reported_at}
use Rattle.chan_model.specs.ResetCauses.{is_path}

-- a command begins, or can't, or the program is suspended
abbrev pub trace_goes_on : Contents → CommandStart → Sequence Act → ProgramTrace → ProgramTrace
trace_goes_on storage (outcome.Begins t) acts k =
    record k { sent = k.sent + 1; now = record no_trace { acts = k.now.acts ▸▸ acts; stopped_by_check = is_some (begun_with_room storage t).transfer.fault }; before = k.now }
trace_goes_on storage outcome.Suspends acts k = record k { now = with_acts k.now acts }
trace_goes_on storage (outcome.Stops check) acts k = record k { now = with_acts k.now acts }

-- Accept: the first of a program that waited, or of one that was suspended the next
abbrev pub trace_begins : Contents → WalkPosition → ProgramTrace → ProgramTrace
trace_begins storage walk k = trace_goes_on storage (first_command storage walk).outcome (first_acts storage walk) k

abbrev pub begins_anew : Contents → Program → ProgramTrace → ProgramTrace
begins_anew storage program k = trace_begins storage (walk_position program.orb Nothing) (record k { orb = program.orb; earlier = 0; now = no_trace })

abbrev pub begins_again : Contents → ProgramPosition → ProgramTrace → ProgramTrace
begins_again storage st k = trace_begins storage st.walk (record k { earlier = count (commands k.orb k.now.acts); now = past_part k.now })

abbrev pub again_as : Contents → Option ProgramPosition → ℕ → ProgramTrace → ProgramTrace
again_as storage None start k = k
again_as storage (Some st) start k = if st.program.start == start then begins_again storage st k else k

abbrev pub begins_as : Contents → Option Program → Option ProgramPosition → ℕ → ProgramTrace → ProgramTrace
begins_as storage None suspended start k = again_as storage suspended start k
begins_as storage (Some program) suspended start k =
    if program.start == start then begins_anew storage program k else again_as storage suspended start k

abbrev pub accepted_at : Contents → HoldPhase → SubchannelState → ProgramTrace → ProgramTrace
accepted_at storage (hold.On t p c) s k = begins_as storage s.waiting s.suspended s.offered k
accepted_at storage phase s k = k

abbrev pub trace_accepted : Contents → SubchannelState → Option HoldStep → ProgramTrace → ProgramTrace
trace_accepted storage s step k = if (outcome_of step).taken then accepted_at storage (hold_after s.hold step).phase s k else k

-- Data: bytes are moved
abbrev pub moves : Contents → Transfer → ℕ → Load → ProgramTrace → ProgramTrace
moves storage t s load k =
    if is_outward t.code then record k { now = gives storage t s (load_length load) k.now }
    else record k { now = takes_in storage t s (load_bytes load) k.now }

abbrev pub answers : Contents → Option ActiveProgram → ℕ → ℕ → Load → ProgramTrace → ProgramTrace
answers storage None n s load k = k
answers storage (Some b) n s load k = if is_answered b.transfer n s then moves storage b.transfer s load k else k

-- End: the command ends, and none is chained to it
abbrev pub ends_alone : DeviceStatus → ProgramTrace → ProgramTrace
ends_alone status k =
    record k { now = record k.now { acts = k.now.acts ▸ End (record { goes_on = false; modifier = has_status_modifier status }); ended = true; unchained = true } }

-- an End of it came
abbrev pub with_ended : ProgramTrace → ProgramTrace
with_ended k = record k { now = record k.now { ended = true } }

-- the next command is chained to as device end comes; until then the command has not ended
abbrev pub chains : Contents → SubchannelState → ActiveProgram → DeviceStatus → Bool → ProgramTrace → ProgramTrace
chains storage s b status more k =
    if chains_command s.scsw b status more then
    (if has_device_end status
    then trace_goes_on storage (next_command storage b.transfer (has_status_modifier status)).outcome (next_acts storage b.transfer (has_status_modifier status)) k
    else with_ended k)
    else ends_alone status k

abbrev pub trace_ends : Contents → SubchannelState → Option ActiveProgram → ℕ → DeviceStatus → Bool → ProgramTrace → ProgramTrace
trace_ends storage s None n status more k = k
trace_ends storage s (Some b) n status more k = if n == b.transfer.command then chains storage s b status more k else k

-- what the subchannel does for its program with a signal
abbrev pub trace_meets : Contents → SubchannelState → ℕ → Up → ProgramTrace → ProgramTrace
trace_meets storage s p (up.Accept t) k = trace_accepted storage s (hold_takes s.hold p (up.Accept t) (takes_device s)) k
trace_meets storage s p (up.Data load t c n seq) k = if is_connected s.hold.phase p t c then answers storage s.begun n seq load k else k
trace_meets storage s p (up.End t n status more) k = if is_on s.hold.phase t then trace_ends storage s s.begun n status more k else k
trace_meets storage s p signal k = k

abbrev pub met_with : Contents → SubchannelState → ℕ → Option Up → Option ProgramTrace → Option ProgramTrace
met_with storage s p (Some signal) (Some k) = Some (trace_meets storage s p signal k)
met_with storage s p signal k = k

abbrev pub met_at : Contents → Option Subchannel → ℕ → Option ProgramTrace → Option ProgramTrace
met_at storage None p k = k
met_at storage (Some sub) p k = met_with storage sub.state p (first_of sub.wires.up p) k

-- a signal that was taken, and not answered
abbrev pub silent_by : Bool → Option (OnPath Up) → Bool
silent_by outcome None = outcome
silent_by outcome (Some x) = false

abbrev pub silent : Taken Up → Bool
silent c = silent_by c.taken c.sent

abbrev pub trace_after : ℕ → State → Event → Reply → Option ProgramTrace → Option ProgramTrace
trace_after walk_position s (event.Choose word) r k = if is_path (index_of s word) walk_position then chosen_at (slice_get s.subs walk_position) r k else k
trace_after walk_position s (event.Up word path) r k = if is_path (index_of s word) walk_position then met_at s.storage (slice_get s.subs walk_position) path k else k
trace_after walk_position s (event.Down word path) r k = if is_path (index_of s word) walk_position then taken_at r k else k
trace_after walk_position s (event.Report u report) r k =
    if is_path (reached_in u report.side s.subs) walk_position then reported_at (slice_get s.units u) report k else k
trace_after walk_position s e r k = k

-- the trace of the subchannel at a place; none where nothing was offered
abbrev pub trace : ℕ → (opening : State) (h : List Entry) (s : State) → Run opening h s → Option ProgramTrace
trace walk_position opening _ _ Opened = None
trace walk_position opening _ _ (Stepped h old e r new run step) = trace_after walk_position old e r (trace walk_position opening h old run)
