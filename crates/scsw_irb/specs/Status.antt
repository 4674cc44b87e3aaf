-- Sets of status bits as numbers (SA22-7832, chapter 16).
use Rattle.std.specs.Prelude.{ℕ, ◌==◌, Bool}
use Rattle.std.specs.Int.RustNames.{bit_and}

-- the bits hold all of these
abbrev pub has : ℕ → ℕ → Bool
has bits wanted = bit_and bits wanted == wanted

-- The bits of a device status

abbrev pub attention : ℕ
attention = 0x80

abbrev pub status_modifier : ℕ
status_modifier = 0x40

abbrev pub control_unit_end : ℕ
control_unit_end = 0x20

abbrev pub channel_end : ℕ
channel_end = 0x08

abbrev pub device_end : ℕ
device_end = 0x04

abbrev pub unit_check : ℕ
unit_check = 0x02

abbrev pub unit_exception : ℕ
unit_exception = 0x01

-- the usual end of a command: channel end and device end
abbrev pub normal_end : ℕ
normal_end = 0x0C

-- all of the bits but channel end
abbrev pub all_but_channel_end : ℕ
all_but_channel_end = 0xF7

-- The bits of a subchannel status

abbrev pub program_controlled : ℕ
program_controlled = 0x80

abbrev pub incorrect_length : ℕ
incorrect_length = 0x40

abbrev pub program_check : ℕ
program_check = 0x20

abbrev pub protection_check : ℕ
protection_check = 0x10

abbrev pub interface_control_check : ℕ
interface_control_check = 0x02
