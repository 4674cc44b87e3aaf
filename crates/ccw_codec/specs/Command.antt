-- What a command code asks for (SA22-7832, chapter 15).
use Rattle.std.specs.Prelude.{ℕ, ◌%◌, ◌==◌, ◌||◌, Bool, true, false, if◌then◌else◌}
use Rattle.ccw_codec.specs.declared.Format.{Format}
use Rattle.ccw_codec.specs.declared.Format.TheVariants as format
use Rattle.ccw_codec.specs.declared.Class.{Class}
use Rattle.ccw_codec.specs.declared.Class.TheVariants.{Write, Read, Control, Sense, ReadBackward, Transfer, Invalid}

-- the low bits: 01, 10 and 11, and then 0100, 1100, 1000 and 0000
abbrev pub class_of : ℕ → Class
class_of command =
    if command % 4 == 1 then Write
    else if command % 4 == 2 then Read
    else if command % 4 == 3 then Control
    else if command % 16 == 4 then Sense
    else if command % 16 == 12 then ReadBackward
    else if command % 16 == 8 then Transfer
    else Invalid

-- a transfer in channel: in format 0 by the low four bits, in format 1 code 08 alone
abbrev pub is_transfer : Format → ℕ → Bool
is_transfer format.Zero command = command % 16 == 8
is_transfer format.One command = command == 8

-- a class of commands that a device is given
abbrev pub is_of_device : Class → Bool
is_of_device Transfer = false
is_of_device Invalid = false
is_of_device class = true

-- a code that a program may have
abbrev pub is_valid : Format → ℕ → Bool
is_valid form command = is_transfer form command || is_of_device (class_of command)
