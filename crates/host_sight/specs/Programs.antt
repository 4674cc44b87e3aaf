-- The programs of a subchannel, each by the number of its start, and 0 where there is none: starts are counted from 1 (own).
use Rattle.std.specs.Prelude.{ℕ, Option, None, Some}
use Rattle.subchannel_model.specs.declared.state.ActiveProgram.{ActiveProgram}
use Rattle.subchannel_model.specs.declared.state.Program.{Program}
use Rattle.subchannel_model.specs.declared.state.ProgramPosition.{ProgramPosition}
use Rattle.subchannel_model.specs.declared.state.SubchannelState.{SubchannelState}
use Rattle.host_sight.specs.declared.programs.HostPrograms.{HostPrograms}

abbrev pub waiting_start : Option Program → ℕ
waiting_start None = 0
waiting_start (Some program) = program.start

abbrev pub holding_start : Option ActiveProgram → ℕ
holding_start None = 0
holding_start (Some active) = active.program.start

abbrev pub suspended_start : Option ProgramPosition → ℕ
suspended_start None = 0
suspended_start (Some position) = position.program.start

abbrev pub programs_told : SubchannelState → HostPrograms
programs_told s = record {
  starts = s.starts;
  waiting = waiting_start s.waiting;
  holding = holding_start s.begun;
  suspended = suspended_start s.suspended;
  offered = s.offered;
  drawn = s.drawn;
}
