-- The steps in which a unit is restarted (own).
use Rattle.std.specs.Prelude.{ℕ, Option, None, Some, Err}
use Rattle.chan_model.specs.declared.fault.Fault.TheVariants as fault
use Rattle.chan_model.specs.declared.unit_state.UnitState.{UnitState}
use Rattle.chan_events.specs.declared.reply.Reply.TheVariants as reply
use Rattle.chan_model.specs.UnitTable.{restarted}
use Rattle.machine_model.specs.State.{State, state_with_unit}
use Rattle.machine_model.specs.Sharing.{members_over, is_let_go, owing_after}
use Rattle.machine_model.specs.Results.{Outcome, does}

abbrev pub restart_with : State → ℕ → UnitState → UnitState → Outcome
restart_with s index u v =
    does reply.Done (state_with_unit (record s { members = members_over s.members index (is_let_go u v) }) index (owing_after s.members index u v))

abbrev pub restart_at : State → ℕ → Option UnitState → Outcome
restart_at s index None = Err fault.NoSuchUnit
restart_at s index (Some u) = restart_with s index u (restarted u)
