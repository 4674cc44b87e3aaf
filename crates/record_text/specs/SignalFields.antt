-- Signals by all their fields (own).
use Rattle.std.specs.Prelude.{ℕ, List, ◌++◌, codes, Bool, if◌then◌else◌}
use Rattle.std.specs.List.{flat_map}
use Rattle.script_text.specs.Text.{byte_text}
use Rattle.chan_model.specs.Signals.{Down, Up, Load}
use Rattle.chan_model.specs.declared.signal.Down.TheVariants as down
use Rattle.chan_model.specs.declared.signal.Up.TheVariants as up
use Rattle.chan_model.specs.declared.signal.Load.TheVariants.{Absorbed, Bytes}
use Rattle.step_records.specs.declared.record.Signal.{Signal}
use Rattle.step_records.specs.declared.record.Signal.TheVariants as signal
use Rattle.record_text.specs.Numbers.{hexadecimal}

abbrev pub command_fields : ℕ → ℕ → ℕ → ℕ → List ℕ
command_fields t n code room =
    codes "command t=" ++ hexadecimal t ++ codes " n=" ++ hexadecimal n ++ (codes " code=" ++ hexadecimal code ++ codes " room=" ++ hexadecimal room)

abbrev pub took_fields : ℕ → ℕ → ℕ → ℕ → List ℕ
took_fields t n s room =
    codes "took t=" ++ hexadecimal t ++ codes " n=" ++ hexadecimal n ++ (codes " s=" ++ hexadecimal s ++ codes " room=" ++ hexadecimal room)

-- a name that ends with `t=`, and which chunk of which command it is
abbrev pub transfer_fields : List ℕ → ℕ → ℕ → ℕ → ℕ → List ℕ
transfer_fields name t c n s =
    name ++ hexadecimal t ++ codes " c=" ++ hexadecimal c ++ (codes " n=" ++ hexadecimal n ++ codes " s=" ++ hexadecimal s)

abbrev pub give_fields : ℕ → ℕ → ℕ → ℕ → List ℕ → List ℕ
give_fields t c n s bytes = transfer_fields (codes "give t=") t c n s ++ (codes " bytes=" ++ flat_map byte_text bytes)

abbrev pub down_fields : Down → List ℕ
down_fields (down.Select t) = codes "select t=" ++ hexadecimal t
down_fields (down.Command t n code room) = command_fields t n code room
down_fields (down.Grant t c) = codes "grant t=" ++ hexadecimal t ++ codes " c=" ++ hexadecimal c
down_fields (down.Refuse t c) = codes "refuse t=" ++ hexadecimal t ++ codes " c=" ++ hexadecimal c
down_fields (down.Took t n s room) = took_fields t n s room
down_fields (down.Give bytes t c n s) = give_fields t c n s bytes
down_fields (down.Halt t) = codes "halt t=" ++ hexadecimal t
down_fields (down.Release t) = codes "release t=" ++ hexadecimal t
down_fields (down.Reset r b) = codes "reset r=" ++ hexadecimal r ++ codes " b=" ++ hexadecimal b
down_fields (down.Got a) = codes "got a=" ++ hexadecimal a

abbrev pub load_fields : Load → List ℕ
load_fields (Absorbed count) = codes " count=" ++ hexadecimal count
load_fields (Bytes bytes) = codes " bytes=" ++ flat_map byte_text bytes

abbrev pub data_fields : ℕ → ℕ → ℕ → ℕ → Load → List ℕ
data_fields t c n s load = transfer_fields (codes "data t=") t c n s ++ load_fields load

abbrev pub more_field : Bool → List ℕ
more_field more = if more then codes " more=1" else codes " more=0"

abbrev pub status_fields : ℕ → ℕ → ℕ → List ℕ
status_fields t n status =
    codes "end t=" ++ hexadecimal t ++ codes " n=" ++ hexadecimal n ++ (codes " status=" ++ hexadecimal status)

abbrev pub end_fields : ℕ → ℕ → ℕ → Bool → List ℕ
end_fields t n status more = status_fields t n status ++ more_field more

abbrev pub up_fields : Up → List ℕ
up_fields (up.Accept t) = codes "accept t=" ++ hexadecimal t
up_fields (up.Busy t) = codes "busy t=" ++ hexadecimal t
up_fields (up.Leave t c) = codes "leave t=" ++ hexadecimal t ++ codes " c=" ++ hexadecimal c
up_fields (up.Back t c) = codes "back t=" ++ hexadecimal t ++ codes " c=" ++ hexadecimal c
up_fields (up.Data load t c n s) = data_fields t c n s load
up_fields (up.End t n status more) = end_fields t n status.0 more
up_fields (up.Released t) = codes "released t=" ++ hexadecimal t
up_fields (up.Cleared r) = codes "cleared r=" ++ hexadecimal r
up_fields (up.Notice b) = codes "notice b=" ++ hexadecimal b
up_fields (up.Attn a status) = codes "attn a=" ++ hexadecimal a ++ codes " status=" ++ hexadecimal status.0

abbrev pub signal_fields : Signal → List ℕ
signal_fields (signal.Down s) = down_fields s
signal_fields (signal.Up s) = up_fields s
