-- What waits on the wires of each subchannel, as it is told.
use Rattle.std.specs.Prelude.{◌≡◌, ◌<◌, ◌==◌, ℕ, Bool, true, false, ◌&&◌, List, [], ◌∷◌, ◌++◌, length, replicate, slice_get, Option, None, Some}
use Rattle.wires.specs.Queues.{queue}
use Rattle.step_records.specs.declared.record.Signal.{Signal}
use Rattle.step_records.specs.declared.record.Way.{Way}
use Rattle.step_records.specs.declared.record.Way.TheVariants.{Down, Up}
use Rattle.step_records.specs.declared.record.Wire.{Wire}

-- for each path the signals that wait, the oldest first
pub record WaitingQueues : Type 0 where
  pub down : List (List Signal)
  pub up : List (List Signal)

abbrev pub queues_of : Way → WaitingQueues → List (List Signal)
queues_of Down sub = sub.down
queues_of Up sub = sub.up

abbrev pub waits_in : WaitingQueues → Way → ℕ → List Signal
waits_in sub way path = queue (queues_of way sub) path

abbrev pub waits_at : Option WaitingQueues → Way → ℕ → List Signal
waits_at None way path = []
waits_at (Some sub) way path = waits_in sub way path

-- what waits on a wire
abbrev pub waits_on : List WaitingQueues → Wire → List Signal
waits_on waiting on = waits_at (slice_get waiting on.subchannel) on.way on.path

abbrev pub same_way : Way → Way → Bool
same_way Down Down = true
same_way Up Up = true
same_way Down Up = false
same_way Up Down = false

abbrev pub same_wire : Wire → Wire → Bool
same_wire one other = (one.subchannel == other.subchannel) && (same_way one.way other.way && (one.path == other.path))

-- no signal waits, on any of the eight paths
abbrev pub no_queues : WaitingQueues
no_queues = record { down = replicate 8 []; up = replicate 8 [] }

-- the queues of a way, by path, and whether a wire is there
abbrev pub queues_at : Option WaitingQueues → Way → List (List Signal)
queues_at None way = []
queues_at (Some sub) way = queues_of way sub

abbrev pub HasWire : List WaitingQueues → Wire → Type 0
HasWire waiting on = on.path < length (queues_at (slice_get waiting on.subchannel) on.way)

-- the signal that waits longest on a wire is this one
abbrev pub IsFirst : List WaitingQueues → Wire → Signal → Type 0
IsFirst waiting on signal = slice_get (waits_on waiting on) 0 ≡ Some signal

-- a signal, where it is asked for
abbrev pub signal_where : Bool → Signal → List Signal
signal_where true signal = signal ∷ []
signal_where false signal = []

-- a signal came onto a wire behind those that wait, or was the first there and is gone; what waits elsewhere stays
abbrev pub IsPut : List WaitingQueues → Wire → Signal → List WaitingQueues → Type 0
IsPut old wire signal new = (on : Wire) → waits_on new on ≡ waits_on old on ++ signal_where (same_wire wire on) signal

abbrev pub IsTaken : List WaitingQueues → Wire → Signal → List WaitingQueues → Type 0
IsTaken old wire signal new = (on : Wire) → waits_on old on ≡ signal_where (same_wire wire on) signal ++ waits_on new on

-- the same of one subchannel
abbrev pub IsPutIn : WaitingQueues → Way → ℕ → Signal → WaitingQueues → Type 0
IsPutIn old way path signal new = (w : Way) (p : ℕ) → waits_in new w p ≡ waits_in old w p ++ signal_where (same_way way w && (path == p)) signal

abbrev pub IsTakenIn : WaitingQueues → Way → ℕ → Signal → WaitingQueues → Type 0
IsTakenIn old way path signal new = (w : Way) (p : ℕ) → waits_in old w p ≡ signal_where (same_way way w && (path == p)) signal ++ waits_in new w p
