-- What the subsystem takes the device of a subchannel to be held by, in numbers (own).
use Rattle.chan_model.specs.declared.hold_state.HoldPhase.{HoldPhase}
use Rattle.chan_model.specs.declared.hold_state.HoldPhase.TheVariants as phase
use Rattle.chan_model.specs.declared.hold_state.HoldState.{HoldState}
use Rattle.host_sight.specs.Told.{flag_told, no_path, path_told}
use Rattle.host_sight.specs.declared.holds.HostHold.{HostHold}

-- the phase: 0 free, 1 a program is offered, 2 it is on, 3 it is away, 4 the device is let go, 5 it is to be reset; and what it names
abbrev pub with_phase : HostHold → HoldPhase → HostHold
with_phase h phase.Free = h
with_phase h (phase.Offer number path) = record h { phase = 1; number = number; path = path }
with_phase h (phase.On number path connection) = record h { phase = 2; number = number; path = path; connection = connection }
with_phase h (phase.Away number) = record h { phase = 3; number = number }
with_phase h (phase.Letting number path) = record h { phase = 4; number = number; path = path }
with_phase h (phase.Reset number) = record h { phase = 5; number = number }

-- what stands beside the phase
abbrev pub free_of : HoldState → HostHold
free_of h = record {
  number = 0;
  connection = 0;
  seen = h.seen;
  restarts = h.known_restarts;
  phase = 0;
  path = no_path;
  reset_path = path_told h.reset_path;
  first_path = path_told h.first_path;
  single_path = flag_told h.single_path;
}

abbrev pub hold_told : HoldState → HostHold
hold_told h = with_phase (free_of h) h.phase
