-- What an I/O instruction names (SA22-7832, chapter 14).
use Rattle.std.specs.Prelude.{ℕ}
use Rattle.chan_events.specs.declared.event.Instruction.{Instruction}
use Rattle.chan_events.specs.declared.event.Instruction.TheVariants as instruction

-- general register 1: the subsystem-identification word of its subchannel
abbrev pub subchannel_word : Instruction → ℕ
subchannel_word (instruction.Ssch word address) = word
subchannel_word (instruction.Tsch word address) = word
subchannel_word (instruction.Stsch word address) = word
subchannel_word (instruction.Msch word address) = word
subchannel_word (instruction.Enable word subclass multipath) = word
subchannel_word (instruction.Rsch word) = word
subchannel_word (instruction.Hsch word) = word
subchannel_word (instruction.Csch word) = word
subchannel_word (instruction.Xsch word) = word
