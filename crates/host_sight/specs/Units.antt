-- What a unit remembers, in numbers: by whom it is held and where, its command at hand, and what it keeps of its two sides (own).
use Rattle.std.specs.Prelude.{ℕ, [], ◌∷◌, Option, None, Some}
use Rattle.chan_model.specs.declared.names.Side.{Side}
use Rattle.chan_model.specs.declared.names.Side.TheVariants.{First, Second}
use Rattle.chan_model.specs.declared.unit_state.Attention.{Attention}
use Rattle.chan_model.specs.declared.unit_state.Connection.{Connection}
use Rattle.chan_model.specs.declared.unit_state.Connection.TheVariants as connection
use Rattle.chan_model.specs.declared.unit_state.CurrentCommand.{CurrentCommand}
use Rattle.chan_model.specs.declared.unit_state.Own.{Own}
use Rattle.chan_model.specs.declared.unit_state.Own.TheVariants as own
use Rattle.chan_model.specs.declared.unit_state.Progress.{Progress}
use Rattle.chan_model.specs.declared.unit_state.Progress.TheVariants as progress
use Rattle.chan_model.specs.declared.unit_state.UnitState.{UnitState}
use Rattle.host_sight.specs.Told.{flag_told, no_path}
use Rattle.host_sight.specs.declared.units.HostUnit.{HostUnit}

abbrev pub side_told : Side → ℕ
side_told First = 0
side_told Second = 1

-- how far the command at hand is; 0 is no command
abbrev pub progress_told : Progress → ℕ
progress_told progress.New = 1
progress_told progress.Working = 2
progress_told progress.ChannelEnded = 3
progress_told progress.Ended = 4

-- where its program is: 1 on a path, 2 asking for one, 3 away
abbrev pub with_connection : HostUnit → Connection → HostUnit
with_connection h (connection.On path c) = record h { place = 1; path = path; connection = c }
with_connection h (connection.Ask path c) = record h { place = 2; path = path; connection = c }
with_connection h (connection.Away c) = record h { place = 3; connection = c }

-- by whom it is held, if by anyone
abbrev pub with_own : HostUnit → Own → HostUnit
with_own h own.Idle = h
with_own h (own.Owned side number c) = with_connection (record h { side = side_told side; number = number }) c

-- the command at hand, if there is one
abbrev pub with_command : HostUnit → Option CurrentCommand → HostUnit
with_command h None = h
with_command h (Some c) = record h { progress = progress_told c.progress; code = c.code; command_path = c.path; sequence = c.sequence }

-- the attention that is not answered, if there is one
abbrev pub with_attention : HostUnit → Option Attention → HostUnit
with_attention h None = h
with_attention h (Some a) = record h { attention = a.number; attention_side = side_told a.side }

-- what stands beside all these
abbrev pub idle_of : UnitState → HostUnit
idle_of u = record {
  number = 0;
  connection = 0;
  command = u.last_command;
  sequence = 0;
  attention = 0;
  restarts = u.restarts;
  floors = u.first.floor ∷ u.second.floor ∷ [];
  place = 0;
  side = 0;
  path = no_path;
  progress = 0;
  code = 0;
  command_path = no_path;
  halted = flag_told u.halted;
  attention_side = 0;
  fresh = flag_told u.first.fresh ∷ flag_told u.second.fresh ∷ [];
}

abbrev pub unit_told : UnitState → HostUnit
unit_told u = with_attention (with_command (with_own (idle_of u) u.own) u.current) u.attention
