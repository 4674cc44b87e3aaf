-- The commands of a console (own).
use Rattle.std.specs.Prelude.{ℕ, ◌==◌, Option, None, Some, if◌then◌else◌}
use Rattle.device_models.specs.declared.console_command.ConsoleCommand.{ConsoleCommand}
use Rattle.device_models.specs.declared.console_command.ConsoleCommand.TheVariants.{Write, Read, NoOperation, Sense}

-- the command of each code; a console has no other
abbrev pub console_command_of : ℕ → Option ConsoleCommand
console_command_of code =
    if code == 0x01 then Some Write
    else if code == 0x0A then Some Read
    else if code == 0x03 then Some NoOperation
    else if code == 0x04 then Some Sense
    else None
