-- The command of the program that holds the device (own): how it is sent, and its transfer.
use Rattle.std.specs.Prelude.{ℕ, ◌+◌, ◌<◌, ◌^◌, true, Option, None, Some}
use Rattle.allegiance.specs.Allegiances.{dedicated_after}
use Rattle.allegiance.specs.declared.allegiances.AllegianceCause.TheVariants as allegiance
use Rattle.chan_model.specs.declared.signal.Down.TheVariants as down
use Rattle.data_move.specs.declared.transfer.Transfer.{Transfer}
use Rattle.data_move.specs.declared.transfer.WithRoom.{WithRoom}
use Rattle.subchannel_model.specs.declared.state.ActiveProgram.{ActiveProgram}
use Rattle.subchannel_model.specs.declared.state.SubchannelState.{SubchannelState}
use Rattle.subchannel_model.specs.declared.state.UpStep.{UpStep}
use Rattle.subchannel_model.specs.Outcomes.{signal_answered}
use Rattle.subchannel_model.specs.Pci.{with_pci}

-- the command of the program at work, whose number is t, is sent with the room for what it brings. A PCI of its CCW makes status first
abbrev pub sends_command : SubchannelState → ℕ → ℕ → WithRoom → UpStep
sends_command s path t x = signal_answered (with_pci s s.begun) path (down.Command t x.transfer.command x.transfer.code x.room)

-- the dedicated allegiance after a Data or a chained command, as `allegiance` defines it
abbrev pub dedicated_after_data : Option ℕ → Option ℕ
dedicated_after_data dedicated = dedicated_after dedicated (allegiance.Data true)

-- the transfer of the program at work is this now
abbrev pub with_transfer : SubchannelState → ActiveProgram → Transfer → SubchannelState
with_transfer s b transfer =
    record s { begun = Some (record b { transfer = transfer }); dedicated = dedicated_after_data s.dedicated }

-- the numbers of the command and of its chunk can be raised
abbrev pub AreNumbersBelow : Option ActiveProgram → Type 0
AreNumbersBelow None = Unit {0}
AreNumbersBelow (Some b) = (b.transfer.sequence + 1 < 2 ^ 63) × (b.transfer.command + 1 < 2 ^ 63)
