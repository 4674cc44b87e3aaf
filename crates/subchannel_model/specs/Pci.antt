-- Program-controlled interruption (SA22-7832, chapters 15 and 16): a CCW whose PCI flag is one makes intermediate status as it takes
-- control.
use Rattle.std.specs.Prelude.{false, if◌then◌else◌, Option, None, Some}
use Rattle.data_move.specs.Moving.{residual}
use Rattle.subchannel_model.specs.declared.state.ActiveProgram.{ActiveProgram}
use Rattle.subchannel_model.specs.declared.state.SubchannelState.{SubchannelState}
use Rattle.subchannel_model.specs.declared.cause.StatusCause.TheVariants as cause
use Rattle.subchannel_model.specs.Causes.{with_cause}

-- the PCI is made once
abbrev pub without_pci : ActiveProgram → ActiveProgram
without_pci b = record b { transfer = record b.transfer { pci_pending = false } }

-- where the PCI flag of the CCW that took control last is one, status is made with the address of the next CCW and the residual count
abbrev pub with_pci_of : SubchannelState → ActiveProgram → SubchannelState
with_pci_of s b =
    if b.transfer.pci_pending
    then with_cause (record s { begun = Some (without_pci b) }) (cause.Pci b.transfer.walk.tried (residual b.transfer.moving))
    else s

-- so for the program at work, where there is one
abbrev pub with_pci : SubchannelState → Option ActiveProgram → SubchannelState
with_pci s None = s
with_pci s (Some b) = with_pci_of s b
