-- The commands of a store of blocks (own).
use Rattle.std.specs.Prelude.{ℕ, ◌==◌, Option, None, Some, if◌then◌else◌}
use Rattle.device_models.specs.declared.command.BlockCommand.{BlockCommand}
use Rattle.device_models.specs.declared.command.BlockCommand.TheVariants.{Write, Read, NoOperation, Sense, Seek, Recalibrate, SearchEqual}

-- the command of each code; a store has no other
abbrev pub block_command_of : ℕ → Option BlockCommand
block_command_of code =
    if code == 0x01 then Some Write
    else if code == 0x02 then Some Read
    else if code == 0x03 then Some NoOperation
    else if code == 0x04 then Some Sense
    else if code == 0x07 then Some Seek
    else if code == 0x0B then Some Recalibrate
    else if code == 0x31 then Some SearchEqual
    else None

-- how many bytes a command moves at most
abbrev pub block_size_of : Option BlockCommand → ℕ
block_size_of (Some Write) = 64
block_size_of (Some Read) = 64
block_size_of (Some NoOperation) = 0
block_size_of (Some Sense) = 1
block_size_of (Some Seek) = 2
block_size_of (Some Recalibrate) = 0
block_size_of (Some SearchEqual) = 2
block_size_of None = 0
