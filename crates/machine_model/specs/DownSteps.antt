-- The steps in which a unit takes the signal that waits longest on a wire down (own).
use Rattle.std.specs.Prelude.{ℕ, Bool, false, nat_lt, if◌then◌else◌, List, Option, None, Some, length, slice_get, Result, Ok, Err}
use Rattle.chan_model.specs.declared.fault.Fault.{Fault}
use Rattle.chan_model.specs.declared.fault.Fault.TheVariants as fault
use Rattle.chan_model.specs.Signals.{Down}
use Rattle.chan_model.specs.declared.names.Side.{Side}
use Rattle.chan_model.specs.declared.signal.OnPath.{OnPath}
use Rattle.chan_model.specs.Signals.{Up}
use Rattle.chan_model.specs.declared.unit_state.UnitState.{UnitState}
use Rattle.chan_events.specs.declared.reply.Reply.TheVariants as reply
use Rattle.chan_model.specs.UnitTable as unit_table
use Rattle.chan_model.specs.UnitTable.{UnitStep, unit_takes, unit_after}
use Rattle.wires.specs.Queues.{queue, taken}
use Rattle.subchannel_model.specs.declared.state.Subchannel.{Subchannel}
use Rattle.machine_model.specs.State.{State}
use Rattle.control_units.specs.declared.Member.{Member}
use Rattle.machine_model.specs.Sharing.{is_asked_for, may_take, members_after, owing_after}
use Rattle.machine_model.specs.Results.{Outcome, DownResult, SharedResult, at_unit}
use Rattle.subchannel_model.specs.Indices.{Found}
use Rattle.subchannel_model.specs.Sending.{carried_by, finds_full, with_any_sent}

abbrev pub with_answer : Subchannel → ℕ → Option (OnPath Up) → Subchannel
with_answer sub path sent =
    record sub { wires = record { down = taken sub.wires.down path; up = with_any_sent sub.wires.up (carried_by sub sent) } }

abbrev pub down_with : Subchannel → ℕ → Down → UnitState → Option UnitStep → Result DownResult Fault
down_with sub path signal u step =
    let outcome = unit_table.outcome_of step in
    if finds_full sub.wires.up (carried_by sub outcome.sent) then Err fault.WireFull
    else Ok (record { reply = reply.Down signal outcome.taken outcome.sent; sub = with_answer sub path outcome.sent; «unit» = unit_after u step })

abbrev pub down_front : Bool → Subchannel → ℕ → UnitState → Option Down → Result DownResult Fault
down_front may sub path u None = Err fault.NotSent
down_front may sub path u (Some signal) = down_with sub path signal u (unit_takes u sub.setup.side path signal may)

abbrev pub down_sub : Bool → Subchannel → ℕ → UnitState → Result DownResult Fault
down_sub may sub path u =
    if nat_lt path (length sub.setup.paths) then down_front may sub path u (slice_get (queue sub.wires.down path) 0)
    else Err fault.NoSuchPath

-- the control unit is asked where it must be, and what it keeps and owes is left as the rules of sharing say
abbrev pub asks_front : UnitState → Side → Option Down → Bool
asks_front u side front = elim front [ None ↦ false | Some signal ↦ is_asked_for u side signal ]

abbrev pub asks_at : Subchannel → ℕ → UnitState → Bool
asks_at sub path u = asks_front u sub.setup.side (slice_get (queue sub.wires.down path) 0)

abbrev pub share_with : List Member → ℕ → Bool → UnitState → Result DownResult Fault → Result SharedResult Fault
share_with members index asks u (Ok t) =
    Ok (record { turn = record t { «unit» = owing_after members index u t.«unit» }; members = members_after members index asks u t.«unit» })
share_with members index asks u (Err f) = Err f

abbrev pub down_shared : List Member → Subchannel → ℕ → UnitState → Result SharedResult Fault
down_shared members sub path u =
    let asks = asks_at sub path u in
    share_with members sub.setup.unit asks u (down_sub (may_take members sub.setup.unit asks) sub path u)

abbrev pub at_shared : State → ℕ → ℕ → Result SharedResult Fault → Outcome
at_shared s index «unit» (Err f) = Err f
at_shared s index «unit» (Ok t) = at_unit (record s { members = t.members }) index «unit» (Ok t.turn)

abbrev pub down_unit : State → Found → ℕ → Option UnitState → Outcome
down_unit s f path found =
    elim found [ None ↦ Err fault.NoSuchUnit | Some u ↦ at_shared s f.index f.sub.setup.unit (down_shared s.members f.sub path u) ]

abbrev pub down_at : State → Option Found → ℕ → Outcome
down_at s None path = Err fault.NoSuchSubchannel
down_at s (Some f) path = down_unit s f path (slice_get s.units f.sub.setup.unit)
