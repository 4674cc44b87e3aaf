-- A signal that waits on a wire, in numbers (own): its kind, 1 to 10 down and 11 to 20 up, and what it names. Of bytes it tells how many.
use Rattle.std.specs.Prelude.{ℕ, length}
use Rattle.chan_model.specs.Signals.{Down, Load, Up}
use Rattle.chan_model.specs.declared.signal.Down.TheVariants as down
use Rattle.chan_model.specs.declared.signal.Load.TheVariants as load
use Rattle.chan_model.specs.declared.signal.Up.TheVariants as up
use Rattle.host_sight.specs.Told.{flag_told}
use Rattle.host_sight.specs.declared.signals.HostSignal.{HostSignal}

-- a signal of this kind, which names nothing but a program or an attention
abbrev pub named : (kind number : ℕ) → HostSignal
named kind number = record {
  number = number;
  connection = 0;
  command = 0;
  sequence = 0;
  restarts = 0;
  kind = kind;
  code = 0;
  room = 0;
  bytes = 0;
  absorbed = 0;
  status = 0;
  more = 0;
}

-- to the unit
abbrev pub down_told : Down → HostSignal
down_told (down.Select number) = named 1 number
down_told (down.Command number command code room) = record (named 2 number) { command = command; code = code; room = room }
down_told (down.Grant number connection) = record (named 3 number) { connection = connection }
down_told (down.Refuse number connection) = record (named 4 number) { connection = connection }
down_told (down.Took number command sequence room) = record (named 5 number) { command = command; sequence = sequence; room = room }
down_told (down.Give bytes number connection command sequence) =
    record (named 6 number) { connection = connection; command = command; sequence = sequence; bytes = length bytes }
down_told (down.Halt number) = named 7 number
down_told (down.Release number) = named 8 number
down_told (down.Reset number restarts) = record (named 9 number) { restarts = restarts }
down_told (down.Got attention) = named 10 attention

-- what a Data brings: how many bytes of a write were absorbed, or how many bytes of a read there are
abbrev pub with_load : HostSignal → Load → HostSignal
with_load h (load.Absorbed count) = record h { absorbed = count }
with_load h (load.Bytes bytes) = record h { bytes = length bytes }

-- to the subsystem
abbrev pub up_told : Up → HostSignal
up_told (up.Accept number) = named 11 number
up_told (up.Busy number) = named 12 number
up_told (up.Leave number connection) = record (named 13 number) { connection = connection }
up_told (up.Back number connection) = record (named 14 number) { connection = connection }
up_told (up.Data l number connection command sequence) =
    with_load (record (named 15 number) { connection = connection; command = command; sequence = sequence }) l
up_told (up.End number command status more) = record (named 16 number) { command = command; status = status.0; more = flag_told more }
up_told (up.Released number) = named 17 number
up_told (up.Cleared number) = named 18 number
up_told (up.Notice restarts) = record (named 19 0) { restarts = restarts }
up_told (up.Attn attention status) = record (named 20 attention) { status = status.0 }
