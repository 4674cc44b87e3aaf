-- Data: the device absorbed the bytes of a chunk, or supplied one (SA22-7832, chapter 15, data transfer; the signal is this project's own).
use Rattle.std.specs.Prelude.{ℕ, ◌+◌, if◌then◌else◌, Option, None, Some}
use Rattle.storage_keys.specs.Storage.{Contents}
use Rattle.chan_model.specs.Signals.{Load, load_bytes}
use Rattle.chan_model.specs.declared.signal.Down.TheVariants as down
use Rattle.chan_model.specs.HoldTable.{is_connected}
use Rattle.chan_model.specs.Loads.{load_length}
use Rattle.chan_model.specs.UnitReports.{is_outward}
use Rattle.data_move.specs.declared.transfer.Transfer.{Transfer}
use Rattle.data_move.specs.declared.transfer.WithRoom.{WithRoom}
use Rattle.data_move.specs.declared.transfer.NextChunk.{NextChunk}
use Rattle.data_move.specs.Commands.{with_room}
use Rattle.data_move.specs.ChunkNumbers.{is_answered}
use Rattle.data_move.specs.ToDevice.{chunk_absorbed, next_chunk}
use Rattle.data_move.specs.FromDevice.{StoredChunk, chunk_stored}
use Rattle.subchannel_model.specs.declared.signals.DataSignal.{DataSignal}
use Rattle.subchannel_model.specs.declared.state.ActiveProgram.{ActiveProgram}
use Rattle.subchannel_model.specs.declared.state.SubchannelState.{SubchannelState}
use Rattle.subchannel_model.specs.declared.state.UpStep.{UpStep}
use Rattle.subchannel_model.specs.Outcomes.{SignalOutcome, with_storage, signal_ignored, signal_answered}
use Rattle.subchannel_model.specs.Pci.{with_pci}
use Rattle.subchannel_model.specs.Command.{with_transfer}

-- the transfer of the program at work is a chunk further; a PCI of a CCW that data was chained to makes status
abbrev pub after_chunk : SubchannelState → ActiveProgram → Transfer → SubchannelState
after_chunk s b transfer = let next = with_transfer s b transfer in with_pci next next.begun

-- write or control: the next bytes are given to the device
abbrev pub gives_chunk : SubchannelState → ActiveProgram → DataSignal → NextChunk → UpStep
gives_chunk s b signal next =
    signal_answered (after_chunk s b next.transfer) signal.path
    (down.Give next.bytes signal.number signal.connection signal.command (signal.sequence + 1))

-- they are those behind the bytes that it absorbed, so many
abbrev pub gives_next_chunk : Contents → SubchannelState → ActiveProgram → DataSignal → ℕ → UpStep
gives_next_chunk storage s b signal count = gives_chunk s b signal (next_chunk storage (chunk_absorbed storage b.transfer signal.sequence count))

-- read or sense: the device is told how many more bytes may come
abbrev pub tells_room : SubchannelState → ActiveProgram → DataSignal → WithRoom → UpStep
tells_room s b signal x =
    signal_answered (after_chunk s b x.transfer) signal.path (down.Took signal.number signal.command signal.sequence x.room)

-- x: what is left once the bytes that it supplied are stored
abbrev pub tells_room_after : SubchannelState → ActiveProgram → DataSignal → StoredChunk → SignalOutcome
tells_room_after s b signal x = with_storage x.storage (tells_room s b signal (with_room x.storage x.transfer))

-- which of the two, the command code tells
abbrev pub moves_bytes : Contents → SubchannelState → ActiveProgram → DataSignal → Load → SignalOutcome
moves_bytes storage s b signal load =
    if is_outward b.transfer.code
    then with_storage storage (gives_next_chunk storage s b signal (load_length load))
    else tells_room_after s b signal (chunk_stored storage b.transfer signal.sequence (load_bytes load))

-- it is answered where it is of the command at hand, and of its last chunk or the next
abbrev pub moves_data : Contents → SubchannelState → Option ActiveProgram → DataSignal → Load → SignalOutcome
moves_data storage s None signal load = with_storage storage (signal_ignored s)
moves_data storage s (Some b) signal load =
    if is_answered b.transfer signal.command signal.sequence then moves_bytes storage s b signal load else with_storage storage (signal_ignored s)

-- Data: where it came by the connection of the program at work
abbrev pub takes_data : Contents → SubchannelState → DataSignal → Load → SignalOutcome
takes_data storage s signal load =
    if is_connected s.hold.phase signal.path signal.number signal.connection then moves_data storage s s.begun signal load
    else with_storage storage (signal_ignored s)
