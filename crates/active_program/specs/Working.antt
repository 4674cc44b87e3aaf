-- The Data and the Ends that are of the program at work, and what comes of each.
use Rattle.std.specs.Prelude.{ℕ, ◌+◌, ◌==◌, if◌then◌else◌, Bool, false, Option, None, Some, List}
use Rattle.storage_keys.specs.Storage.{Contents}
use Rattle.chan_model.specs.Signals.{Load}
use Rattle.chan_model.specs.Signals.{Up}
use Rattle.chan_model.specs.declared.signal.Up.TheVariants as up
use Rattle.chan_model.specs.HoldTable.{is_connected, is_on}
use Rattle.chan_model.specs.Signals.{Down}
use Rattle.chan_model.specs.declared.signal.Down.TheVariants as down
use Rattle.chan_model.specs.declared.signal.OnPath.{OnPath}
use Rattle.data_move.specs.declared.transfer.NextChunk.{NextChunk}
use Rattle.data_move.specs.declared.transfer.WithRoom.{WithRoom}
use Rattle.data_move.specs.ChunkNumbers.{is_answered}
use Rattle.data_move.specs.ToDevice.{chunk_absorbed, next_chunk}
use Rattle.data_move.specs.FromDevice.{chunk_stored}
use Rattle.data_move.specs.Commands.{with_room}
use Rattle.subchannel_model.specs.declared.signals.DataSignal.{DataSignal}
use Rattle.subchannel_model.specs.declared.signals.EndSignal.{EndSignal}
use Rattle.subchannel_model.specs.declared.state.ActiveProgram.{ActiveProgram}
use Rattle.subchannel_model.specs.declared.state.SubchannelState.{SubchannelState}
use Rattle.subchannel_model.specs.declared.state.UpStep.{UpStep}
use Rattle.subchannel_model.specs.Outcomes.{SignalOutcome, with_storage, signal_ignored}
use Rattle.subchannel_model.specs.Data.{gives_chunk, takes_data, moves_bytes}
use Rattle.subchannel_model.specs.Pci.{with_pci}
use Rattle.subchannel_model.specs.End.{ends_command, takes_end}
use Rattle.subchannel_model.specs.Command.{dedicated_after_data}
use Rattle.subchannel_model.specs.Ends.{chains_command}

-- a Data that the program at work takes, and the program
pub record Moved : Type 0 where
  pub begun : ActiveProgram
  pub signal : DataSignal

-- a Data that is to be answered
abbrev pub is_due : Option ActiveProgram → DataSignal → Bool
is_due None signal = false
is_due (Some b) signal = is_answered b.transfer signal.command signal.sequence

-- one by the connection at hand
abbrev pub moved_of : Option ActiveProgram → DataSignal → Option Moved
moved_of None signal = None
moved_of (Some b) signal = if is_due (Some b) signal then Some (record { begun = b; signal = signal }) else None

abbrev pub moved_at : SubchannelState → DataSignal → Option Moved
moved_at s signal =
    if is_connected s.hold.phase signal.path signal.number signal.connection then moved_of s.begun signal else None

abbrev pub data_by : ℕ → Up → Option DataSignal
data_by p (up.Data load t c n seq) = Some (record { path = p; number = t; connection = c; command = n; sequence = seq })
data_by p signal = None

abbrev pub moved_when : SubchannelState → Option DataSignal → Option Moved
moved_when s None = None
moved_when s (Some signal) = moved_at s signal

abbrev pub moved_by : SubchannelState → ℕ → Up → Option Moved
moved_by s p signal = moved_when s (data_by p signal)

-- what comes of the one that a signal is
abbrev pub data_taken : Contents → SubchannelState → Load → Option DataSignal → SignalOutcome
data_taken storage s load None = with_storage storage (signal_ignored s)
data_taken storage s load (Some signal) = takes_data storage s signal load

-- the chunk that is given next, and the room that is told, with their signals
abbrev pub given : Contents → ActiveProgram → DataSignal → ℕ → NextChunk
given storage b signal count = next_chunk storage (chunk_absorbed storage b.transfer signal.sequence count)

abbrev pub give_next : Contents → SubchannelState → ActiveProgram → DataSignal → ℕ → UpStep
give_next storage s b signal count = gives_chunk s b signal (given storage b signal count)

abbrev pub give_of : DataSignal → NextChunk → Option (OnPath Down)
give_of signal chunk = Some (record {
  path = signal.path;
  signal = down.Give chunk.bytes signal.number signal.connection signal.command (signal.sequence + 1);
})

abbrev pub taken_in : Contents → ActiveProgram → DataSignal → List ℕ → WithRoom
taken_in storage b signal bytes =
    let after = chunk_stored storage b.transfer signal.sequence bytes in
    with_room after.storage after.transfer

abbrev pub took_of : DataSignal → WithRoom → Option (OnPath Down)
took_of signal x =
    Some (record { path = signal.path; signal = down.Took signal.number signal.command signal.sequence x.room })

-- a subchannel whose transfer moved on
abbrev pub followed : SubchannelState → SubchannelState
followed s =
    let next = record s { dedicated = dedicated_after_data s.dedicated } in
    with_pci next next.begun

-- it moves bytes, and any other is ignored
abbrev pub data_met : Contents → SubchannelState → Load → Option Moved → SignalOutcome
data_met storage s load None = with_storage storage (signal_ignored s)
data_met storage s load (Some m) = moves_bytes storage s m.begun m.signal load

-- an End that the program at work takes, and the program
pub record Ended : Type 0 where
  pub begun : ActiveProgram
  pub signal : EndSignal

-- an End of the command at hand
abbrev pub is_of_command : Option ActiveProgram → EndSignal → Bool
is_of_command None signal = false
is_of_command (Some b) signal = signal.command == b.transfer.command

-- one of the program that is connected
abbrev pub ended_of : Option ActiveProgram → EndSignal → Option Ended
ended_of None signal = None
ended_of (Some b) signal = if is_of_command (Some b) signal then Some (record { begun = b; signal = signal }) else None

abbrev pub ended_at : SubchannelState → EndSignal → Option Ended
ended_at s signal = if is_on s.hold.phase signal.number then ended_of s.begun signal else None

abbrev pub end_by : ℕ → Up → Option EndSignal
end_by p (up.End t n status more) = Some (record { path = p; number = t; command = n; status = status; more = more })
end_by p signal = None

abbrev pub ended_when : SubchannelState → Option EndSignal → Option Ended
ended_when s None = None
ended_when s (Some signal) = ended_at s signal

abbrev pub ended_by : SubchannelState → ℕ → Up → Option Ended
ended_by s p signal = ended_when s (end_by p signal)

-- what comes of the one that a signal is
abbrev pub end_taken_by : Contents → SubchannelState → Option EndSignal → UpStep
end_taken_by storage s None = signal_ignored s
end_taken_by storage s (Some signal) = takes_end storage s signal

abbrev pub chains_at : SubchannelState → Option ActiveProgram → EndSignal → Bool
chains_at s None signal = false
chains_at s (Some b) signal = chains_command s.scsw b signal.status signal.more

-- it ends the command, and any other is ignored
abbrev pub end_met : Contents → SubchannelState → Option Ended → UpStep
end_met storage s None = signal_ignored s
end_met storage s (Some e) = ends_command storage s e.begun e.signal
