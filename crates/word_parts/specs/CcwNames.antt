-- The names of the parts of a channel-command word, and of commands (SA22-7832, chapter 15; the devices are this project's own).
use Rattle.std.specs.Prelude.{ℕ, ◌*◌, ◌==◌, Bool, true, false, List, [], ◌∷◌, ◌++◌, codes, if◌then◌else◌}
use Rattle.zbits.specs.Bits.{field_of}
use Rattle.ccw_codec.specs.declared.Class.{Class}
use Rattle.ccw_codec.specs.declared.Class.TheVariants.{Write, Read, Control, Sense, ReadBackward, Transfer, Invalid}
use Rattle.ccw_codec.specs.Command.{class_of}
use Rattle.channel_config.specs.declared.parts.UnitKind.{UnitKind}
use Rattle.channel_config.specs.declared.parts.UnitKind.TheVariants.{Block, Console, Rejecting}
use Rattle.word_parts.specs.Numbers.{hex_text}
use Rattle.word_parts.specs.Parts.{Named, bits, flag, listed, texts_of}
use Rattle.word_parts.specs.declared.part.Shown.TheVariants.{NotZero}

-- the flags, at the left end of a word
abbrev pub flags : List Named
flags =
    flag 0 (codes "CD")
    ∷ flag 1 (codes "CC")
    ∷ flag 2 (codes "SLI")
    ∷ flag 3 (codes "SKIP")
    ∷ flag 4 (codes "PCI")
    ∷ flag 5 (codes "IDA")
    ∷ flag 6 (codes "S")
    ∷ flag 7 (codes "MIDA")
    ∷ []

-- what format 0 ignores of its second word
abbrev pub ignored : List Named
ignored =
    bits 8 15 (NotZero 2) (codes "ignored byte 5")
    ∷ []

-- the bit that is zero in the second word of format 1
abbrev pub address_bit : List Named
address_bit =
    flag 0 (codes "bit 32")
    ∷ []

abbrev pub class_name : Class → List ℕ
class_name Write = codes "write "
class_name Read = codes "read "
class_name Control = codes "control "
class_name Sense = codes "sense "
class_name ReadBackward = codes "read backward "
class_name Transfer = codes "transfer in channel "
class_name Invalid = codes "invalid "

-- a command by its class and its code
abbrev pub class_text : ℕ → List ℕ
class_text code = class_name (class_of code) ++ hex_text 2 code

-- the commands of a store of blocks; it rejects all other codes
abbrev pub block_name : ℕ → List ℕ
block_name code =
    if code == 0x01 then codes "write"
    else if code == 0x02 then codes "read"
    else if code == 0x03 then codes "no operation"
    else if code == 0x04 then codes "sense"
    else if code == 0x07 then codes "seek"
    else if code == 0x0B then codes "recalibrate"
    else if code == 0x31 then codes "search"
    else []

-- the commands of a console
abbrev pub console_name : ℕ → List ℕ
console_name code =
    if code == 0x01 then codes "write"
    else if code == 0x03 then codes "no operation"
    else if code == 0x04 then codes "sense"
    else if code == 0x0A then codes "read"
    else []

abbrev pub is_name : List ℕ → Bool
is_name [] = false
is_name (letter ∷ letters) = true

-- a command by its name, where it has one
abbrev pub known_text : List ℕ → ℕ → List ℕ
known_text name code = if is_name name then name else class_text code

abbrev pub command_text : UnitKind → ℕ → List ℕ
command_text Block code = known_text (block_name code) code
command_text Console code = known_text (console_name code) code
command_text Rejecting code = class_text code

abbrev pub count_text : ℕ → ℕ → List ℕ
count_text code count = class_text code ++ ((codes ", " ++ hex_text 1 count) ++ codes " bytes at ")

abbrev pub flags_text : ℕ → List ℕ
flags_text byte = listed true (codes ", ") (texts_of flags (byte * 0x1000000))

abbrev pub area_text : ℕ → ℕ → List ℕ
area_text address byte = hex_text 1 address ++ flags_text byte

abbrev pub block_of : ℕ → ℕ → ℕ → ℕ → List ℕ
block_of code count address byte = count_text code count ++ area_text address byte

-- two words of format 0
abbrev pub ccw_0_text : ℕ → ℕ → List ℕ
ccw_0_text first second =
    block_of (field_of first 0 7) (field_of second 16 31) (field_of first 8 31) (field_of second 0 7) ++ listed true (codes "; ") (texts_of ignored second)

-- two words of format 1
abbrev pub ccw_1_text : ℕ → ℕ → List ℕ
ccw_1_text first second =
    block_of (field_of first 0 7) (field_of first 16 31) (field_of second 1 31) (field_of first 8 15) ++ listed true (codes "; ") (texts_of address_bit second)
