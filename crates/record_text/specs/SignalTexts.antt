-- The texts of signals: each by its name, with the numbers that tell it apart (own).
use Rattle.std.specs.Prelude.{ℕ, ◌==◌, List, [], ◌++◌, length, codes, Bool, if◌then◌else◌}
use Rattle.std.specs.List.{flat_map}
use Rattle.script_text.specs.Text.{byte_text}
use Rattle.chan_model.specs.Signals.{Down, Up, Load}
use Rattle.chan_model.specs.declared.signal.Down.TheVariants as down
use Rattle.chan_model.specs.declared.signal.Up.TheVariants as up
use Rattle.chan_model.specs.declared.signal.Load.TheVariants.{Absorbed, Bytes}
use Rattle.record_text.specs.Numbers.{hexadecimal}

-- bytes of a write, of which none ends the transfer
abbrev pub give_text : ℕ → List ℕ → List ℕ
give_text sequence bytes =
    if length bytes == 0 then codes "Give " ++ hexadecimal sequence ++ codes " no more"
    else codes "Give " ++ hexadecimal sequence ++ codes " " ++ flat_map byte_text bytes

-- a command by its number alone; its name is that of its code
abbrev pub down_text : Down → List ℕ
down_text (down.Select t) = codes "Select " ++ hexadecimal t
down_text (down.Command t n code room) = codes "Command " ++ hexadecimal n
down_text (down.Grant t c) = codes "Grant " ++ hexadecimal c
down_text (down.Refuse t c) = codes "Refuse " ++ hexadecimal c
down_text (down.Took t n s room) = codes "Took " ++ hexadecimal s ++ codes " room " ++ hexadecimal room
down_text (down.Give bytes t c n s) = give_text s bytes
down_text (down.Halt t) = codes "Halt " ++ hexadecimal t
down_text (down.Release t) = codes "Release " ++ hexadecimal t
down_text (down.Reset t b) = codes "Reset " ++ hexadecimal t
down_text (down.Got a) = codes "Got " ++ hexadecimal a

-- a Data of a write: the first asks for bytes
abbrev pub absorbed_text : ℕ → ℕ → List ℕ
absorbed_text s count =
    if s == 0 then codes "Data " ++ hexadecimal s ++ codes " asks"
    else codes "Data " ++ hexadecimal s ++ codes " took " ++ hexadecimal count

abbrev pub data_text : ℕ → Load → List ℕ
data_text s (Absorbed count) = absorbed_text s count
data_text s (Bytes bytes) = codes "Data " ++ hexadecimal s ++ codes " " ++ flat_map byte_text bytes

abbrev pub status_text : ℕ → List ℕ
status_text status = codes "End " ++ byte_text status

abbrev pub more_text : Bool → List ℕ
more_text more = if more then codes " more" else []

abbrev pub end_text : ℕ → Bool → List ℕ
end_text status more = status_text status ++ more_text more

abbrev pub attention_text : ℕ → ℕ → List ℕ
attention_text a status = codes "Attn " ++ hexadecimal a ++ codes " " ++ byte_text status

abbrev pub up_text : Up → List ℕ
up_text (up.Accept t) = codes "Accept " ++ hexadecimal t
up_text (up.Busy t) = codes "Busy " ++ hexadecimal t
up_text (up.Leave t c) = codes "Leave " ++ hexadecimal c
up_text (up.Back t c) = codes "Back " ++ hexadecimal c
up_text (up.Data load t c n s) = data_text s load
up_text (up.End t n status more) = end_text status.0 more
up_text (up.Released t) = codes "Released " ++ hexadecimal t
up_text (up.Cleared t) = codes "Cleared " ++ hexadecimal t
up_text (up.Notice b) = codes "Notice " ++ hexadecimal b
up_text (up.Attn a status) = attention_text a status.0
